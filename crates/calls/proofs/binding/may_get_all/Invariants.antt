use Rattle.std.proofs.Common.{◌≡◌, drop, map}
use Rattle.operations.specs.Arguments.{given}
use Rattle.calls.specs.Parameters.{taken, may_get_all}
use Rattle.calls.proofs.binding.may_get_all.Given as goal

abbrev pub invariant-loop-place : goal.invariant-loop-place
invariant-loop-place l =
    may_get_all l.place (map taken (drop l.place l.parameters)) (given l.arguments) ≡ may_get_all 0 (map taken l.parameters) (given l.arguments)

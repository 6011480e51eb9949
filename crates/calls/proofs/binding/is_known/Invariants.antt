use Rattle.std.proofs.Common.{◌≡◌, drop, map}
use Rattle.std.specs.List.{list_any}
use Rattle.std.specs.Str.{bytes_eq}
use Rattle.calls.specs.Parameters.{taken}
use Rattle.calls.proofs.binding.is_known.Given as goal

abbrev pub invariant-loop-parameter : goal.invariant-loop-parameter
invariant-loop-parameter l =
    list_any (λ p. bytes_eq l.name p.name) (map taken (drop l.parameter-index l.parameters)) ≡ list_any (λ p. bytes_eq l.name p.name) (map taken l.parameters)

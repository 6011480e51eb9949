use Rattle.std.proofs.Common.{◌≡◌, drop}
use Rattle.targets.specs.RuleCalls.{repeats_given}
use Rattle.rule_calls.proofs.repeats.repeats_given.Given as goal

abbrev pub invariant-loop-place : goal.invariant-loop-place
invariant-loop-place l =
    repeats_given (drop l.place l.attributes) l.arguments (drop l.place l.values)
    ≡ repeats_given l.attributes l.arguments l.values

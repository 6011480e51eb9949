use Rattle.std.proofs.Common.{◌≡◌, [], drop}
use Rattle.targets.specs.RuleCalls.{value_for}
use Rattle.rule_calls.specs.Each.{added}
use Rattle.rule_calls.proofs.reading.values_for.Given as goal

abbrev pub invariant-loop-place : goal.invariant-loop-place
invariant-loop-place l =
    added (value_for l.heap l.«package» l.arguments) l.values (drop l.place l.attributes)
    ≡ added (value_for l.heap l.«package» l.arguments) [] l.attributes

use Rattle.std.proofs.Common.{◌≡◌, drop}
use Rattle.std.specs.List.{list_any}
use Rattle.targets.specs.RuleCalls.{is_missed}
use Rattle.rule_calls.proofs.fitting.misses_any.Given as goal

abbrev pub invariant-loop-attribute : goal.invariant-loop-attribute
invariant-loop-attribute l =
    list_any (is_missed l.arguments) (drop l.attribute-index l.attributes) ≡ list_any (is_missed l.arguments) l.attributes

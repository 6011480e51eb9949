use Rattle.std.proofs.Common.{◌≡◌, drop}
use Rattle.std.specs.List.{list_all}
use Rattle.targets.specs.RuleCalls.{may_name}
use Rattle.rule_calls.proofs.fitting.may_name_all.Given as goal

abbrev pub invariant-loop-name : goal.invariant-loop-name
invariant-loop-name l = list_all (may_name l.attributes) (drop l.name-index l.names) ≡ list_all (may_name l.attributes) l.names

use Rattle.std.proofs.Common.{◌≡◌, ◌++◌, drop}
use Rattle.targets.specs.Placed.{defaults_of}
use Rattle.targets.proofs.rule_attributes.defaults.Given as goal

abbrev pub invariant-loop-item : goal.invariant-loop-item
invariant-loop-item l = l.defaults ++ defaults_of (drop l.item-index l.items) ≡ defaults_of l.items

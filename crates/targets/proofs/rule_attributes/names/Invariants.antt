use Rattle.std.proofs.Common.{◌≡◌, ◌++◌, drop}
use Rattle.targets.specs.Placed.{names_of}
use Rattle.targets.proofs.rule_attributes.names.Given as goal

abbrev pub invariant-loop-item : goal.invariant-loop-item
invariant-loop-item l = l.names.items ++ names_of (drop l.item-index l.items) ≡ names_of l.items

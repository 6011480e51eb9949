use Rattle.std.proofs.Common.{◌≡◌, map, take}
use Rattle.values.specs.Shape.{value_of}
use Rattle.evaluation.specs.Naming.{named}
use Rattle.endings.proofs.handing.named_items.Given as goal

abbrev pub invariant-loop-tree : goal.invariant-loop-tree
invariant-loop-tree l = l.items ≡ map (λ t. value_of (named l.naming t)) (take l.tree-index l.trees)

use Rattle.std.proofs.Common.{◌≡◌, drop}
use Rattle.depsets.specs.Rose.{roses}
use Rattle.depsets.specs.Orders.{all_fit}
use Rattle.depsets.proofs.depset.children_fit.Given as goal

abbrev pub invariant-loop-child : goal.invariant-loop-child
invariant-loop-child l = all_fit l.order (roses (drop l.child-index l.children)) ≡ all_fit l.order (roses l.children)

-- Each child of a depset weighs less than it. (This project's own.)
use Rattle.std.specs.Prelude.{◌≤◌, max}
use Rattle.std.proofs.Common.{arith}
use Rattle.depsets.specs.Rose.{weight, most_le-weights}
use Rattle.depsets.specs.declared.depset.Node.{Node}
use Rattle.depsets.specs.declared.depset.Depset.TheDeep.{deep-Node}
use Rattle.depsets.specs.Trees.{tree_of}

-- A node weighs more than each of its children, so that going down a depset ends.
pub deep_le-weight : (n : Node) → max (deep-Node n) 0 ≤ weight (tree_of n)
deep_le-weight n = omega (arith, most_le-weights n.children.items)

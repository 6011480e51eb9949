-- The tree of a depset, and what each of its nodes keeps of it. (docs/PROFILE.md, "Depsets"; this
-- project's own.)
use Rattle.std.specs.Prelude.{◌≡◌, ◌≤◌, true}
use Rattle.depsets.specs.Rose.{Rose, node, roses, depth}
use Rattle.depsets.specs.Own.{Own}
use Rattle.depsets.specs.Elements.{elements, is_uniform, first_type}
use Rattle.depsets.specs.declared.depset.Node.{Node}

-- the tree that a node is to a contract: what stands at it itself, over the trees of its children
abbrev pub tree_of : Node → Rose Own
tree_of n =
    node (record { id = n.id; order = n.order; direct = n.direct.items }) (roses n.children.items)

-- What a node keeps of its tree is true: the levels are counted and at most 1,000; all elements
-- have one type, and it is noted.
pub record IsKept (n : Node) : Type 0 where
  pub levels : n.levels ≡ depth (tree_of n)
  pub bounded : n.levels ≤ 1000
  pub uniform : is_uniform (elements (tree_of n)) ≡ true
  pub noted : n.element_type ≡ first_type (elements (tree_of n))

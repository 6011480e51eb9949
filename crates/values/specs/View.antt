-- The tree of a frozen value. (This project's own.)
use Rattle.std.specs.Prelude.{◌≡◌, length, Bool, true, false}
use Rattle.values.specs.Tree.{Tree, Branch, key, leaf, branch, list, tuple, dict, instance, trees}
use Rattle.values.specs.Tree.{pairs, slots}
use Rattle.leaves.specs.declared.leaf.Leaf.{Leaf}
use Rattle.keys.specs.declared.key.Key.{Key}
use Rattle.leaves.specs.declared.leaf.Provider.{Provider}
use Rattle.values.specs.declared.frozen.Held.{Held}
use Rattle.values.specs.declared.frozen.Held.TheVariants as held
use Rattle.values.specs.declared.frozen.Node.{Node}
use Rattle.values.specs.declared.frozen.Node.TheVariants as node

-- a frozen value, to a contract
abbrev pub FrozenTree : Type 0
FrozenTree = Tree Leaf Key Provider

-- a frozen value with parts
abbrev pub FrozenBranch : Type 0
FrozenBranch = Branch Leaf Key Provider

-- the tree of a frozen value as the program holds it
abbrev pub tree_of : Held → FrozenTree
tree_of (held.Key k) = key k
tree_of (held.Leaf l) = leaf l
tree_of (held.Branch b) = branch b

-- the tree of a frozen value with parts, as the program keeps it
abbrev pub node_branch : Node → FrozenBranch
node_branch (node.List v) = list (trees v.items)
node_branch (node.Tuple v) = tuple (trees v.items)
node_branch (node.Dict ks v) = dict (pairs ks.value.keys v.items)
node_branch (node.Instance p v) = instance p (slots v.items)

-- of a dict, the keys and the values stand by place
abbrev pub IsPaired : Node → Type 0
IsPaired (node.List v) = Unit {0}
IsPaired (node.Tuple v) = Unit {0}
IsPaired (node.Dict ks v) = length ks.value.keys ≡ length v.items
IsPaired (node.Instance p v) = Unit {0}

-- whether it is a list: a change of it is refused as one of what is frozen
abbrev pub is_list : FrozenBranch → Bool
is_list (list ts) = true
is_list _ = false

-- whether it is a dict: a change of it is refused as one of what is frozen
abbrev pub is_dict : FrozenBranch → Bool
is_dict (dict ps) = true
is_dict _ = false

-- lists, tuples and dicts may be walked
abbrev pub is_walkable : FrozenBranch → Bool
is_walkable (instance p ss) = false
is_walkable _ = true

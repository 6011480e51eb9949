-- What a value shows to equality, freezing and `str`, wherever it stands: a key, a leaf, items,
-- entries or fields. A frozen list and a list of the heap show the same. (docs/PROFILE.md,
-- "Values".)
use Rattle.std.specs.Prelude.{Bool, true, false, List, [], ◌∷◌, map, Option, Some, None, slice_get}
use Rattle.values.specs.Tree.{key as key_tree, leaf, branch, list, tuple, dict, instance, tree_list}
use Rattle.values.specs.Tree.{pair_list, slot_list}
use Rattle.values.specs.View.{FrozenTree, FrozenBranch}
use Rattle.leaves.specs.declared.leaf.Leaf.{Leaf}
use Rattle.leaves.specs.declared.leaf.Provider.{Provider}
use Rattle.keys.specs.declared.key.Key.{Key}
use Rattle.values.specs.declared.value.Value.{Value}
use Rattle.values.specs.declared.value.Value.TheVariants as value
use Rattle.values.specs.declared.cells.Cell.{Cell}
use Rattle.values.specs.declared.cells.Cell.TheVariants as cell

-- What a value shows. Items are those of a list where the flag is true, and else of a tuple. The
-- fields of an instance stand by the places of their names in the provider. A cell that the heap
-- doesn't have shows nothing.
pub data Shape : Type 0 where
  key : Key → Shape
  atom : Leaf → Shape
  items : Bool → List Value → Shape
  entries : List (Key × Value) → Shape
  fields : Provider → List (Option Value) → Shape
  nothing : Shape

-- a frozen value as a value: a key or a leaf is itself
abbrev pub value_of : FrozenTree → Value
value_of (key_tree k) = value.Key k
value_of (leaf l) = value.Leaf l
value_of (branch b) = value.Frozen b

-- the entry of a frozen dict as one of a dict
abbrev pub entry_of : Key × FrozenTree → Key × Value
entry_of e = (e.0, value_of e.1)

-- the field of a frozen instance as one of an instance, if it was given
abbrev pub slot_of : Option FrozenTree → Option Value
slot_of None = None
slot_of (Some t) = Some (value_of t)

-- keys and values by place
abbrev pub zip : List Key → List FrozenTree → List (Key × Value)
zip [] ts = []
zip (k ∷ ks) [] = []
zip (k ∷ ks) (t ∷ ts) = (k, value_of t) ∷ zip ks ts

-- what a frozen value with parts shows
abbrev pub branch_shape : FrozenBranch → Shape
branch_shape (list ts) = items true (map value_of (tree_list ts))
branch_shape (tuple ts) = items false (map value_of (tree_list ts))
branch_shape (dict ps) = entries (map entry_of (pair_list ps))
branch_shape (instance p ss) = fields p (map slot_of (slot_list ss))

-- what a frozen value shows
abbrev pub tree_shape : FrozenTree → Shape
tree_shape (key_tree k) = key k
tree_shape (leaf l) = atom l
tree_shape (branch b) = branch_shape b

-- what a cell of the heap shows; a cell that isn't there shows nothing
abbrev pub cell_shape : Option Cell → Shape
cell_shape (Some (cell.List xs n)) = items true xs
cell_shape (Some (cell.Tuple xs)) = items false xs
cell_shape (Some (cell.Dict es n)) = entries es
cell_shape (Some (cell.Instance p xs)) = fields p xs
cell_shape None = nothing

-- what a value shows, with the heap in which its cell lies
abbrev pub shape : List Cell → Value → Shape
shape h (value.Key k) = key k
shape h (value.Leaf l) = atom l
shape h (value.Cell n) = cell_shape (slice_get h n)
shape h (value.Frozen b) = branch_shape b

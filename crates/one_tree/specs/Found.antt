-- The depsets in what an evaluation holds: each with all that is below it. A value that stands in a
-- cell of the heap is found there, and not at the names that share the cell. (Bazel's documentation
-- of depsets has no ids; they are this project's own.)
use Rattle.std.specs.Prelude.{List, [], ◌∷◌, ◌++◌, Option, Some, None}
use Rattle.depsets.specs.Flat.{nodes}
use Rattle.depsets.specs.Own.{Own}
use Rattle.depsets.specs.Rose.{Rose}
use Rattle.values.specs.Tree.{Trees, Pairs, Slots, key as key_tree, leaf, branch, list, tuple, dict}
use Rattle.values.specs.Tree.{instance, none, more, stop, pair, end, missing, given}
use Rattle.values.specs.View.{FrozenTree, FrozenBranch}
use Rattle.values.specs.declared.cells.Cell.{Cell}
use Rattle.values.specs.declared.cells.Cell.TheVariants as cell
use Rattle.keys.specs.declared.key.Key.{Key}
use Rattle.leaves.specs.declared.leaf.Leaf.{Leaf}
use Rattle.leaves.specs.declared.leaf.Leaf.TheVariants as plain
use Rattle.leaves.specs.declared.leaf.Provider.{Provider}
use Rattle.values.specs.declared.value.Value.{Value}
use Rattle.values.specs.declared.value.Value.TheVariants as value

-- a depset: its id, its order and its elements, and its children below it
abbrev pub Set : Type 0
Set = Rose Own

-- the depsets in a leaf: if it is a depset, that one and all below it
abbrev pub in_leaf : Leaf → List Set
in_leaf (plain.Depset d) = nodes d
in_leaf _ = []

abbrev mutual
  -- in a frozen value
  pub in_tree : FrozenTree → List Set
  in_tree (key_tree k) = []
  in_tree (leaf l) = in_leaf l
  in_tree (branch b) = in_branch b

  -- in a frozen list, tuple, dict or instance
  pub in_branch : FrozenBranch → List Set
  in_branch (list ts) = in_trees ts
  in_branch (tuple ts) = in_trees ts
  in_branch (dict ps) = in_pairs ps
  in_branch (instance p ss) = in_slots ss

  -- in each item of a list or a tuple
  pub in_trees : Trees Leaf Key Provider → List Set
  in_trees none = []
  in_trees (more t ts) = in_tree t ++ in_trees ts

  -- in each value of a dict; a key has none
  pub in_pairs : Pairs Leaf Key Provider → List Set
  in_pairs stop = []
  in_pairs (pair k t ps) = in_tree t ++ in_pairs ps

  -- in each field that was given
  pub in_slots : Slots Leaf Key Provider → List Set
  in_slots end = []
  in_slots (missing ss) = in_slots ss
  in_slots (given t ss) = in_tree t ++ in_slots ss

-- In the values of an outcome, or of a module. A depset that an action has as its inputs stands
-- among them, as a value.
abbrev pub in_outcome : List FrozenTree → List Set
in_outcome [] = []
in_outcome (t ∷ ts) = in_tree t ++ in_outcome ts

-- in a value, but for what is in its cell
abbrev pub in_value : Value → List Set
in_value (value.Key k) = []
in_value (value.Leaf l) = in_leaf l
in_value (value.Cell n) = []
in_value (value.Frozen b) = in_branch b

-- in each of these values
abbrev pub in_values : List Value → List Set
in_values [] = []
in_values (v ∷ vs) = in_value v ++ in_values vs

-- in the values of a dict
abbrev pub in_entries : List (Key × Value) → List Set
in_entries [] = []
in_entries (e ∷ es) = in_value e.1 ++ in_entries es

-- in the fields of an instance that were given
abbrev pub in_fields : List (Option Value) → List Set
in_fields [] = []
in_fields (None ∷ fs) = in_fields fs
in_fields (Some v ∷ fs) = in_value v ++ in_fields fs

-- in the items, values or fields of a cell
abbrev pub in_cell : Cell → List Set
in_cell (cell.List vs n) = in_values vs
in_cell (cell.Tuple vs) = in_values vs
in_cell (cell.Dict es n) = in_entries es
in_cell (cell.Instance p fs) = in_fields fs

-- in all cells of a heap
abbrev pub in_heap : List Cell → List Set
in_heap [] = []
in_heap (c ∷ cs) = in_cell c ++ in_heap cs

-- in a heap and in values that name its cells
abbrev pub together : List Cell → List Value → List Set
together h vs = in_heap h ++ in_values vs

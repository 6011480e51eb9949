-- In every heap a value shows the key that it is, if it is one.
use Rattle.std.proofs.Common.{◌≡◌, List, Option, Some, None, slice_get, refl, sym}
use Rattle.values.specs.Lying.{key_in_value}
use Rattle.values.specs.Shape.{cell_shape, shape, branch_shape}
use Rattle.values.specs.Tree.{list, tuple, dict, instance}
use Rattle.values.specs.View.{FrozenBranch}
use Rattle.values.specs.declared.cells.Cell.{Cell}
use Rattle.values.specs.declared.cells.Cell.TheVariants as cell
use Rattle.values.specs.declared.value.Value.{Value}
use Rattle.values.specs.declared.value.Value.TheVariants as value
use Rattle.operations.specs.Reading.{key_in}

-- no cell shows a key
in_cell : (c : Option Cell) → None ≡ key_in (cell_shape c)
in_cell (Some (cell.List xs n)) = refl
in_cell (Some (cell.Tuple xs)) = refl
in_cell (Some (cell.Dict es n)) = refl
in_cell (Some (cell.Instance p xs)) = refl
in_cell None = refl

-- and no frozen value with parts
in_branch : (b : FrozenBranch) → None ≡ key_in (branch_shape b)
in_branch (list ts) = refl
in_branch (tuple ts) = refl
in_branch (dict ps) = refl
in_branch (instance p ss) = refl

pub key_shown : (h : List Cell) (v : Value) → key_in_value v ≡ key_in (shape h v)
key_shown h (value.Key k) = refl
key_shown h (value.Leaf l) = refl
key_shown h (value.Cell n) = in_cell (slice_get h n)
key_shown h (value.Frozen b) = in_branch b

-- What holds of every change of a heap (Starlark's specification, "For loops": what is walked isn't
-- changed).
use Rattle.std.specs.Prelude.{◌≡◌, ◌≢◌, ℕ, ℤ, Bool, true, false, List, Some, Option, Result, Ok}
use Rattle.std.specs.Prelude.{slice_get, nat_lt}
use Rattle.heap.specs.Cells.{pushed, joined, indexed, keyed, made, list_changed, dict_changed}
use Rattle.heap.specs.Cells.{walk_begun_at, walk_ended}
use Rattle.keys.specs.declared.key.Key.{Key}
use Rattle.values.specs.declared.value.Value.{Value}
use Rattle.values.specs.declared.value.Value.TheVariants as value
use Rattle.values.specs.declared.cells.Cell.{Cell}
use Rattle.values.specs.declared.cells.Cell.TheVariants as cell
use Rattle.ticks.specs.declared.ticks.Kind.{Kind}

-- the changes that a program can make, of the value that stands first
pub data Change : Type 0 where
  append : Value → Value → Change
  extend : Value → List Value → Change
  set_index : Value → ℤ → Value → Change
  set_key : Value → Key → Value → Change

-- the value that a change is of
abbrev pub changed_value : Change → Value
changed_value (append v x) = v
changed_value (extend v xs) = v
changed_value (set_index v i x) = v
changed_value (set_key v k x) = v

-- the heap after a change, or its fault
abbrev pub heap_after : List Cell → Change → Result (List Cell) Kind
heap_after h (append v x) = list_changed (pushed x) h v
heap_after h (extend v xs) = list_changed (joined xs) h v
heap_after h (set_index v i x) = list_changed (indexed i x) h v
heap_after h (set_key v k x) = dict_changed (keyed k x) h v

-- a walk over this cell goes on
abbrev pub is_walked : Cell → Bool
is_walked (cell.List xs n) = nat_lt 0 n
is_walked (cell.Dict es n) = nat_lt 0 n
is_walked (cell.Tuple xs) = false
is_walked (cell.Instance p xs) = false

-- what a cell has, apart from the count of its walks
abbrev pub contents : Cell → Cell
contents (cell.List xs n) = cell.List xs 0
contents (cell.Dict es n) = cell.Dict es 0
contents (cell.Tuple xs) = cell.Tuple xs
contents (cell.Instance p xs) = cell.Instance p xs

-- all cells but that of the value are as they were
abbrev pub OthersStay : List Cell → List Cell → Value → Type 0
OthersStay h g v = (n : ℕ) → v ≢ value.Cell n → slice_get g n ≡ slice_get h n

-- each cell over which a walk went on has what it had
abbrev pub WalkedStay : List Cell → List Cell → Type 0
WalkedStay h g =
    (n : ℕ) (c : Cell) → slice_get h n ≡ Some c → is_walked c ≡ true
    → (d : Cell) × ((slice_get g n ≡ Some d) × (contents d ≡ contents c))

-- What is walked has what it had also when another walk begins or ends, and when a cell is made.
pub record WalksStay : Type 0 where
  pub begun : (h g : List Cell) (v : Value) (n : Option ℕ) → walk_begun_at h v ≡ Ok (n, g)
      → WalkedStay h g
  pub ended : (h : List Cell) (n : Option ℕ) → WalkedStay h (walk_ended h n)
  pub new_cell : (h g : List Cell) (c : Cell) (parts : ℕ) (v : Value) → made h c parts ≡ Ok (v, g)
      → WalkedStay h g

-- New cells and changes of cells. Each change is refused by the first of type, frozen, iterating,
-- index and large. (Starlark's specification, "Freezing a value" and "For loops"; the limit of size
-- is this project's own.)
use Rattle.std.specs.Prelude.{◌≡◌, ℕ, zero, suc, ◌+◌, ◌-◌, ℤ, List, [], ◌∷◌, ◌++◌}
use Rattle.std.specs.Prelude.{length, Option, Some, None, ◌<◌, Result, Ok, Err, if◌then◌else◌}
use Rattle.std.specs.Prelude.{nat_lt, ◌&&◌, not, slice_get, slice_set, IsSomeAnd, ◌^◌, ◌≤◌}
use Rattle.numbers.specs.Places.{place_of}
use Rattle.indexmap.specs.IndexMap.{insert_entry}
use Rattle.values.specs.View.{FrozenBranch, is_list, is_dict, is_walkable}
use Rattle.leaves.specs.Leaves.{same_key}
use Rattle.values.specs.Keyed.{has_key}
use Rattle.keys.specs.declared.key.Key.{Key}
use Rattle.values.specs.declared.value.Value.{Value}
use Rattle.values.specs.declared.value.Value.TheVariants as value
use Rattle.values.specs.declared.cells.Cell.{Cell}
use Rattle.values.specs.declared.cells.Cell.TheVariants as cell
use Rattle.ticks.specs.declared.ticks.Kind.{Kind}
use Rattle.ticks.specs.declared.ticks.Kind.TheVariants.{Wrong, Frozen, Iterating, Index, Large}
use Rattle.values.specs.declared.cells.TheConstants.{LARGEST}

-- a new cell takes the next number; `large` where it would have more parts than a list may have
abbrev pub made : List Cell → Cell → ℕ → Result (Value × List Cell) Kind
made h c n = if nat_lt LARGEST n then Err Large else Ok (value.Cell (length h), h ++ c ∷ [])

-- a change's result with f of what it gave, where it wasn't refused
abbrev pub after : {A B : Type 0} → (A → B) → Result A Kind → Result B Kind
after f (Ok x) = Ok (f x)
after f (Err k) = Err k

-- a list that is walked isn't changed
abbrev pub unless_walked : {A : Type 0} → ℕ → Result A Kind → Result A Kind
unless_walked n r = if nat_lt 0 n then Err Iterating else r

-- an item put last
abbrev pub pushed_items : Value → List Value → Result (List Value) Kind
pushed_items v xs = if nat_lt (length xs) LARGEST then Ok (xs ++ v ∷ []) else Err Large

-- items put last
abbrev pub joined_items : List Value → List Value → Result (List Value) Kind
joined_items vs xs = if nat_lt LARGEST (length xs + length vs) then Err Large else Ok (xs ++ vs)

-- the items with the value at the place that an index means; `index` where it means none
abbrev pub set_at : Option ℕ → Value → List Value → Result (List Value) Kind
set_at None v xs = Err Index
set_at (Some i) v xs = Ok (slice_set xs i v)

-- the item at an index set
abbrev pub indexed_items : ℤ → Value → List Value → Result (List Value) Kind
indexed_items i v xs = set_at (place_of i (length xs)) v xs

-- a key given the value; a new key may be one too many
abbrev pub keyed_entries : Key → Value → List (Key × Value) → Result (List (Key × Value)) Kind
keyed_entries k v es =
    if not (has_key es k) && not (nat_lt (length es) LARGEST) then Err Large
    else Ok (insert_entry same_key es k v)

-- a change of the list of a cell
abbrev pub in_list : (List Value → Result (List Value) Kind) → Cell → Result Cell Kind
in_list f (cell.List xs n) = unless_walked n (after (λ ys. cell.List ys n) (f xs))
in_list f (cell.Tuple xs) = Err Wrong
in_list f (cell.Dict es n) = Err Wrong
in_list f (cell.Instance p xs) = Err Wrong

-- a change of the dict of a cell
abbrev pub in_dict : (List (Key × Value) → Result (List (Key × Value)) Kind) → Cell
    → Result Cell Kind
in_dict f (cell.List xs n) = Err Wrong
in_dict f (cell.Tuple xs) = Err Wrong
in_dict f (cell.Dict es n) = unless_walked n (after (λ fs. cell.Dict fs n) (f es))
in_dict f (cell.Instance p xs) = Err Wrong

-- what `append` makes of the cell of a list (Starlark's specification, "list·append")
abbrev pub pushed : Value → Cell → Result Cell Kind
pushed v c = in_list (pushed_items v) c

-- what `extend` makes of the cell of a list (Starlark's specification, "list·extend")
abbrev pub joined : List Value → Cell → Result Cell Kind
joined vs c = in_list (joined_items vs) c

-- what `x[i] = v` makes of the cell of a list (Starlark's specification, "Assignments")
abbrev pub indexed : ℤ → Value → Cell → Result Cell Kind
indexed i v c = in_list (indexed_items i v) c

-- what `x[k] = v` makes of the cell of a dict (Starlark's specification, "Assignments")
abbrev pub keyed : Key → Value → Cell → Result Cell Kind
keyed k v c = in_dict (keyed_entries k v) c

-- a walk begins: of a list, a tuple or a dict
abbrev pub walk_begun : Cell → Result Cell Kind
walk_begun (cell.List xs n) = Ok (cell.List xs (n + 1))
walk_begun (cell.Tuple xs) = Ok (cell.Tuple xs)
walk_begun (cell.Dict es n) = Ok (cell.Dict es (n + 1))
walk_begun (cell.Instance p xs) = Err Wrong

-- so many walks are counted in the cell that 64 bits can't count one more
abbrev pub IsFull : Cell → Type 0
IsFull (cell.List xs n) = 2 ^ 64 ≤ n + 1
IsFull (cell.Tuple xs) = ⊥
IsFull (cell.Dict es n) = 2 ^ 64 ≤ n + 1
IsFull (cell.Instance p xs) = ⊥

-- the same of the cell that a value names
abbrev pub IsFullAt : List Cell → Value → Type 0
IsFullAt h (value.Cell n) = IsSomeAnd (slice_get h n) IsFull
IsFullAt h v = ⊥

-- and a walk ends: the cell counts one less, and never less than none
abbrev pub walk_over : Cell → Cell
walk_over (cell.List xs n) = cell.List xs (n - 1)
walk_over (cell.Tuple xs) = cell.Tuple xs
walk_over (cell.Dict es n) = cell.Dict es (n - 1)
walk_over (cell.Instance p xs) = cell.Instance p xs

-- the heap with what becomes of the cell at the place
abbrev pub put_at : List Cell → ℕ → (Cell → Result Cell Kind) → Result (List Cell) Kind
put_at [] i f = Err Wrong
put_at (c ∷ cs) zero f = after (λ d. d ∷ cs) (f c)
put_at (c ∷ cs) (suc i) f = after (λ ds. c ∷ ds) (put_at cs i f)

-- why a change of a list is refused of a frozen value: `frozen` where it is a list, and else `type`
abbrev pub list_refusal : FrozenBranch → Kind
list_refusal b = if is_list b then Frozen else Wrong

-- why a change of a dict is refused of a frozen value: `frozen` where it is a dict, and else `type`
abbrev pub dict_refusal : FrozenBranch → Kind
dict_refusal b = if is_dict b then Frozen else Wrong

-- a change of a list
abbrev pub list_changed : (Cell → Result Cell Kind) → List Cell → Value → Result (List Cell) Kind
list_changed f h (value.Key k) = Err Wrong
list_changed f h (value.Leaf l) = Err Wrong
list_changed f h (value.Cell n) = put_at h n f
list_changed f h (value.Frozen b) = Err (list_refusal b)

-- a change of a dict
abbrev pub dict_changed : (Cell → Result Cell Kind) → List Cell → Value → Result (List Cell) Kind
dict_changed f h (value.Key k) = Err Wrong
dict_changed f h (value.Leaf l) = Err Wrong
dict_changed f h (value.Cell n) = put_at h n f
dict_changed f h (value.Frozen b) = Err (dict_refusal b)

-- A walk begins over a value, with the cell in which it is counted: a frozen list, tuple or dict
-- may be walked, and nothing is counted.
abbrev pub walk_begun_at : List Cell → Value → Result (Option ℕ × List Cell) Kind
walk_begun_at h (value.Key k) = Err Wrong
walk_begun_at h (value.Leaf l) = Err Wrong
walk_begun_at h (value.Cell n) = after (λ g. (Some n, g)) (put_at h n walk_begun)
walk_begun_at h (value.Frozen b) = if is_walkable b then Ok (None, h) else Err Wrong

-- the walk that is counted in the cell at the place is over
abbrev pub ended_at : List Cell → ℕ → List Cell
ended_at [] i = []
ended_at (c ∷ cs) zero = walk_over c ∷ cs
ended_at (c ∷ cs) (suc i) = c ∷ ended_at cs i

-- a walk is over, and where it is counted in no cell nothing changes
abbrev pub walk_ended : List Cell → Option ℕ → List Cell
walk_ended h None = h
walk_ended h (Some n) = ended_at h n

-- the cell that a walk counts in is there, and where it counts in none the value may be walked
abbrev pub IsWalked : List Cell → Value → Option ℕ → Type 0
IsWalked h v (Some n) = (n < length h) × (v ≡ value.Cell n)
IsWalked h v None = walk_begun_at h v ≡ Ok (None, h)

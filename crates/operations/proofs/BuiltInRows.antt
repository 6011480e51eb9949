-- Worked calls of built-in functions and methods, by computation.
use Rattle.std.specs.Prelude.{◌≡◌, ◌-◌, ◌^◌, pos, negsuc, List, [], ◌∷◌, Ok, Err, refl, codes, true}
use Rattle.leaves.specs.declared.leaf.Leaf.TheVariants as plain
use Rattle.leaves.specs.declared.leaf.BuiltIn.TheVariants as built_in
use Rattle.keys.specs.declared.key.Key.TheVariants as index
use Rattle.values.specs.declared.value.Value.{Value}
use Rattle.values.specs.declared.value.Value.TheVariants as value
use Rattle.values.specs.declared.cells.Cell.TheVariants as cell
use Rattle.ticks.specs.declared.ticks.Kind.TheVariants as kind
use Rattle.printing.specs.Repr.{print_at}
use Rattle.operations.specs.Making.{none, truth, number, text}
use Rattle.operations.specs.Arguments.{Given}
use Rattle.operations.specs.BuiltIns.{argument, len, str, range, list, fail}
use Rattle.operations.specs.Methods.{get, pairs}
use Rattle.operations.proofs.Rows.{with_cells, one, two, list_at}

abbrev at : List Value → Given
at vs = record { items = vs; names = []; values = [] }

-- len(x = "abc"), len(), len(1, 2), len(True)
by_name : argument (codes "x") (record { items = []; names = codes "x" ∷ []; values = one ∷ [] }) ≡ Ok one
by_name = refl

missing_one : argument (codes "x") (at []) ≡ Err kind.Arity
missing_one = refl

two_of_one : argument (codes "x") (at (one ∷ two ∷ [])) ≡ Err kind.Arity
two_of_one = refl

bytes_of_a_text : len (text (codes "abc")) (with_cells [] 0) ≡ Ok (number (pos 3), with_cells [] 0)
bytes_of_a_text = refl

no_size : len (truth true) (with_cells [] 0) ≡ Err kind.Wrong
no_size = refl

-- str("a") takes a tick, str([()]) two; str(len) is `type` after its tick
text_itself : str (text (codes "a")) (with_cells [] 0) ≡ Ok (text (codes "a"), with_cells [] 1)
unfolding print_at
text_itself = refl

text_of_a_list : str list_at (with_cells (cell.List (value.Cell 1 ∷ []) 0 ∷ cell.Tuple [] ∷ []) 0)
    ≡ Ok (text (codes "[()]"), with_cells (cell.List (value.Cell 1 ∷ []) 0 ∷ cell.Tuple [] ∷ []) 2)
unfolding print_at
text_of_a_list = refl

no_text : str (value.Leaf (plain.BuiltIn built_in.Len)) (with_cells [] 0) ≡ Err kind.Wrong
unfolding print_at
no_text = refl

no_tick : str (value.Leaf (plain.BuiltIn built_in.Len)) (with_cells [] 6) ≡ Err kind.Steps
unfolding print_at
no_tick = refl

-- range(2), range(-1, 1), range(2, 1), range(n = 1), range("a"), and the widest of all
two_numbers : range (at (two ∷ [])) (with_cells [] 0) ≡ Ok (list_at, with_cells (cell.List (number (pos 0) ∷ one ∷ []) 0 ∷ []) 0)
two_numbers = refl

from_below : range (at (number (negsuc 0) ∷ one ∷ [])) (with_cells [] 0)
    ≡ Ok (list_at, with_cells (cell.List (number (negsuc 0) ∷ number (pos 0) ∷ []) 0 ∷ []) 0)
from_below = refl

no_numbers : range (at (two ∷ one ∷ [])) (with_cells [] 0) ≡ Ok (list_at, with_cells (cell.List [] 0 ∷ []) 0)
no_numbers = refl

no_names : range (record { items = []; names = codes "n" ∷ []; values = one ∷ [] }) (with_cells [] 0) ≡ Err kind.Arity
no_names = refl

range_of_a_text : range (at (text (codes "a") ∷ [])) (with_cells [] 0) ≡ Err kind.Wrong
range_of_a_text = refl

widest : range (at (number (negsuc (2 ^ 63 - 1)) ∷ number (pos (2 ^ 63 - 1)) ∷ [])) (with_cells [] 0) ≡ Err kind.Large
widest = refl

-- list({"a": 1}), list("a")
keys_of_a_dict : list list_at (with_cells (cell.Dict ((index.Text (codes "a"), one) ∷ []) 0 ∷ []) 0)
    ≡ Ok (value.Cell 1, with_cells (cell.Dict ((index.Text (codes "a"), one) ∷ []) 0 ∷ cell.List (text (codes "a") ∷ []) 0 ∷ []) 0)
keys_of_a_dict = refl

list_of_a_text : list (text (codes "a")) (with_cells [] 0) ≡ Err kind.Wrong
list_of_a_text = refl

-- fail("no"), fail(1)
fails : fail (text (codes "no")) (with_cells [] 0) ≡ Err (kind.Fail (codes "no"))
fails = refl

fails_without_text : fail one (with_cells [] 0) ≡ Err kind.Wrong
fails_without_text = refl

-- {}.get(1), {}.get(1, 2), {}.get([]), {}.get()
missing_key : get [] (one ∷ []) (with_cells [] 0) ≡ Ok (none, with_cells [] 0)
missing_key = refl

other_default : get [] (one ∷ two ∷ []) (with_cells [] 0) ≡ Ok (two, with_cells [] 0)
other_default = refl

list_as_key : get [] (list_at ∷ []) (with_cells (cell.List [] 0 ∷ []) 0) ≡ Err kind.Wrong
list_as_key = refl

no_position : get [] [] (with_cells [] 0) ≡ Err kind.Arity
no_position = refl

-- {1: 2}.items() makes the tuple first
tuple_first : pairs ((index.Number (pos 1), two) ∷ []) (with_cells [] 0)
    ≡ Ok (value.Cell 1, with_cells (cell.Tuple (one ∷ two ∷ []) ∷ cell.List (value.Cell 0 ∷ []) 0 ∷ []) 0)
tuple_first = refl

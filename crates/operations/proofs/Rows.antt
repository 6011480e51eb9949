-- Worked values of the operations, by computation, on a state of an evaluation that has seen nothing yet.
use Rattle.std.specs.Prelude.{◌≡◌, ℕ, pos, negsuc, List, [], ◌∷◌, Ok, Err, refl, codes, true, false}
use Rattle.values.specs.Tree.{list, tuple, none as no_trees}
use Rattle.leaves.specs.declared.leaf.Leaf.TheVariants as plain
use Rattle.keys.specs.declared.key.Key.TheVariants as index
use Rattle.values.specs.declared.value.Value.{Value}
use Rattle.values.specs.declared.value.Value.TheVariants as value
use Rattle.values.specs.declared.cells.Cell.{Cell}
use Rattle.values.specs.declared.cells.Cell.TheVariants as cell
use Rattle.ticks.specs.declared.ticks.Kind.TheVariants as kind
use Rattle.visits.specs.Equal.{equal_at}
use Rattle.operations.specs.declared.state.State.{State}
use Rattle.operations.specs.States.{tick}
use Rattle.operations.specs.Making.{none, truth, number, text, new_list, enter, keep}
use Rattle.operations.specs.Truth.{truth_of}
use Rattle.operations.specs.Equality.{equals}
use Rattle.operations.specs.Items.{item}
use Rattle.operations.specs.Changes.{append, extend, set_item}
use Rattle.operations.specs.Walks.{begin, ended, parts}
use Rattle.operations.specs.Fields.{field, find}

-- a state with these cells, and so many ticks used of six
abbrev pub with_cells : List Cell → ℕ → State
with_cells h n =
    record {
      heap = h;
      ticks = record { limit = 6; used = n };
      owner = codes "a/r.bzl";
      depsets = 0;
      file = 0;
      globals = [];
      loaded = [];
      defaults = [];
    }

abbrev pub one : Value
one = number (pos 1)

abbrev pub two : Value
two = number (pos 2)

abbrev pub list_at : Value
list_at = value.Cell 0

-- `l.append(1)` of a loaded list, of a walked one, of a tuple, and of a list
loaded_list : append (value.Frozen (list no_trees)) one (with_cells [] 0) ≡ Err kind.Frozen
loaded_list = refl

walked_list : append list_at one (with_cells (cell.List (one ∷ []) 1 ∷ []) 0) ≡ Err kind.Iterating
walked_list = refl

no_list : append list_at one (with_cells (cell.Tuple [] ∷ []) 0) ≡ Err kind.Wrong
no_list = refl

one_more : append list_at two (with_cells (cell.List (one ∷ []) 0 ∷ []) 0)
    ≡ Ok (none, with_cells (cell.List (one ∷ two ∷ []) 0 ∷ []) 0)
one_more = refl

-- `l.extend(l)` doubles it once; `l.extend(1)` of a frozen list is `type`, and `l.extend([])` `frozen`
doubled : extend list_at list_at (with_cells (cell.List (one ∷ two ∷ []) 0 ∷ []) 0)
    ≡ Ok (none, with_cells (cell.List (one ∷ two ∷ one ∷ two ∷ []) 0 ∷ []) 0)
doubled = refl

type_before_frozen : extend (value.Frozen (list no_trees)) one (with_cells [] 0) ≡ Err kind.Wrong
type_before_frozen = refl

frozen_by_nothing : extend (value.Frozen (list no_trees)) (value.Frozen (tuple no_trees)) (with_cells [] 0) ≡ Err kind.Frozen
frozen_by_nothing = refl

-- `x[-1] = 2`, `x[2] = 2`, `x["a"] = 2`, and the first of `type`, `iterating` and `index`
set_from_the_end : set_item list_at (number (negsuc 0)) two (with_cells (cell.List (one ∷ one ∷ []) 0 ∷ []) 0)
    ≡ Ok (tt, with_cells (cell.List (one ∷ two ∷ []) 0 ∷ []) 0)
set_from_the_end = refl

set_outside : set_item list_at two two (with_cells (cell.List (one ∷ one ∷ []) 0 ∷ []) 0) ≡ Err kind.Index
set_outside = refl

walked_before_index : set_item list_at two two (with_cells (cell.List (one ∷ one ∷ []) 1 ∷ []) 0) ≡ Err kind.Iterating
walked_before_index = refl

type_before_walked : set_item list_at (text (codes "a")) two (with_cells (cell.List [] 1 ∷ []) 0) ≡ Err kind.Wrong
type_before_walked = refl

-- a key that is there keeps its place; a list is no key
set_key : set_item list_at one two (with_cells (cell.Dict ((index.Number (pos 1), one) ∷ (index.Truth true, one) ∷ []) 0 ∷ []) 0)
    ≡ Ok (tt, with_cells (cell.Dict ((index.Number (pos 1), two) ∷ (index.Truth true, one) ∷ []) 0 ∷ []) 0)
set_key = refl

no_key : set_item list_at list_at two (with_cells (cell.Dict [] 0 ∷ []) 0) ≡ Err kind.Wrong
no_key = refl

-- `"abc"[-1]`, `(1, 2)[-2]`, `(1, 2)[True]`, `{}[1]`, `{}[[]]`
last_byte : item (text (codes "abc")) (number (negsuc 0)) (with_cells [] 0) ≡ Ok (text (codes "c"), with_cells [] 0)
last_byte = refl

past_the_text : item (text (codes "abc")) (number (pos 3)) (with_cells [] 0) ≡ Err kind.Index
past_the_text = refl

from_the_end : item list_at (number (negsuc 1)) (with_cells (cell.Tuple (one ∷ two ∷ []) ∷ []) 0)
    ≡ Ok (one, with_cells (cell.Tuple (one ∷ two ∷ []) ∷ []) 0)
from_the_end = refl

no_index : item list_at (truth true) (with_cells (cell.Tuple (one ∷ two ∷ []) ∷ []) 0) ≡ Err kind.Wrong
no_index = refl

missing_key : item list_at one (with_cells (cell.Dict [] 0 ∷ []) 0) ≡ Err kind.Key
missing_key = refl

type_of_key : item list_at list_at (with_cells (cell.Dict [] 0 ∷ []) 0) ≡ Err kind.Wrong
type_of_key = refl

-- `{1: 1, 1: 2}` is `key`, `{[]: 1}` `type`; in a comprehension the later value stays
twice_in_a_display : enter list_at one two (with_cells (cell.Dict ((index.Number (pos 1), one) ∷ []) 0 ∷ []) 0) ≡ Err kind.Key
twice_in_a_display = refl

truth_and_one : enter list_at (truth true) two (with_cells (cell.Dict ((index.Number (pos 1), one) ∷ []) 0 ∷ []) 0)
    ≡ Ok (tt, with_cells (cell.Dict ((index.Number (pos 1), one) ∷ (index.Truth true, two) ∷ []) 0 ∷ []) 0)
truth_and_one = refl

later_stays : keep list_at one two (with_cells (cell.Dict ((index.Number (pos 1), one) ∷ []) 0 ∷ []) 0)
    ≡ Ok (tt, with_cells (cell.Dict ((index.Number (pos 1), two) ∷ []) 0 ∷ []) 0)
later_stays = refl

-- a new cell takes the next number
second_cell : new_list (one ∷ []) (with_cells (cell.List [] 0 ∷ []) 0)
    ≡ Ok (value.Cell 1, with_cells (cell.List [] 0 ∷ cell.List (one ∷ []) 0 ∷ []) 0)
second_cell = refl

-- what counts as true
zero_is_false : truth_of (with_cells [] 0) (number (pos 0)) ≡ false
zero_is_false = refl

empty_tuple_is_false : truth_of (with_cells (cell.Tuple [] ∷ []) 0) list_at ≡ false
empty_tuple_is_false = refl

frozen_list_is_false : truth_of (with_cells [] 0) (value.Frozen (list no_trees)) ≡ false
frozen_list_is_false = refl

-- a walk is counted in its cell until it ends; a dict is walked by its keys
walk_of_a_list : begin list_at (with_cells (cell.List (one ∷ two ∷ []) 0 ∷ []) 0)
    ≡ Ok (one ∷ two ∷ [], with_cells (cell.List (one ∷ two ∷ []) 1 ∷ []) 0)
walk_of_a_list = refl

walk_of_a_dict : begin list_at (with_cells (cell.Dict ((index.Text (codes "a"), one) ∷ []) 0 ∷ []) 0)
    ≡ Ok (text (codes "a") ∷ [], with_cells (cell.Dict ((index.Text (codes "a"), one) ∷ []) 1 ∷ []) 0)
walk_of_a_dict = refl

no_walk_of_a_text : begin (text (codes "a")) (with_cells [] 0) ≡ Err kind.Wrong
no_walk_of_a_text = refl

walk_over : ended list_at (with_cells (cell.List (one ∷ []) 1 ∷ []) 0) ≡ with_cells (cell.List (one ∷ []) 0 ∷ []) 0
walk_over = refl

-- a dict can't be unpacked
no_parts : parts list_at (with_cells (cell.Dict [] 0 ∷ []) 0) ≡ Err kind.Wrong
no_parts = refl

-- the tick that is one more than the limit
last_tick : tick (with_cells [] 5) ≡ Ok (tt, with_cells [] 6)
last_tick = refl

no_tick_left : tick (with_cells [] 6) ≡ Err kind.Steps
no_tick_left = refl

-- `[1, 2] == [1, 1]` visits three pairs, `True == 1` one
three_pairs : equals list_at (value.Cell 1) (with_cells (cell.List (one ∷ two ∷ []) 0 ∷ cell.List (one ∷ one ∷ []) 0 ∷ []) 0)
    ≡ Ok (false, with_cells (cell.List (one ∷ two ∷ []) 0 ∷ cell.List (one ∷ one ∷ []) 0 ∷ []) 3)
unfolding equal_at
three_pairs = refl

two_types : equals (truth true) one (with_cells [] 0) ≡ Ok (false, with_cells [] 1)
unfolding equal_at
two_types = refl

-- `[].foo` is `name`, and so is `[].append` where it isn't called
no_method : find list_at (codes "foo") (with_cells (cell.List [] 0 ∷ []) 0) ≡ Err kind.Name
no_method = refl

read_method : field list_at (codes "append") (with_cells (cell.List [] 0 ∷ []) 0) ≡ Err kind.Name
read_method = refl

-- fields of `//a/b:c/d` and of the File `a/x.txt`
package_of : field (value.Leaf (plain.Label (codes "//a/b:c/d"))) (codes "package") (with_cells [] 0)
    ≡ Ok (text (codes "a/b"), with_cells [] 0)
package_of = refl

name_of : field (value.Leaf (plain.Label (codes "//:c/d"))) (codes "name") (with_cells [] 0)
    ≡ Ok (text (codes "c/d"), with_cells [] 0)
name_of = refl

basename_of : field (value.Leaf (plain.File (record { path = codes "a/x.txt"; owner = codes "//a:x" }))) (codes "basename")
    (with_cells [] 0) ≡ Ok (text (codes "x.txt"), with_cells [] 0)
basename_of = refl

-- Worked sums, products, quotients and comparisons, by computation.
use Rattle.std.specs.Prelude.{◌≡◌, ◌-◌, ◌^◌, pos, negsuc, List, [], ◌∷◌, Ok, Err, refl, codes, true, false}
use Rattle.values.specs.Tree.{list, tuple, none as no_trees}
use Rattle.values.specs.declared.value.Value.{Value}
use Rattle.values.specs.declared.value.Value.TheVariants as value
use Rattle.values.specs.declared.cells.Cell.TheVariants as cell
use Rattle.ticks.specs.declared.ticks.Kind.TheVariants as kind
use Rattle.numbers.specs.declared.order.Comparison.TheVariants as op
use Rattle.operations.specs.declared.arithmetic.Arithmetic.TheVariants as arithmetic
use Rattle.operations.specs.Making.{truth, number, text}
use Rattle.operations.specs.Operators.{plus, add_in_place, calculate, negative, compare}
use Rattle.operations.proofs.Rows.{with_cells, one, two, list_at}

-- the greatest and the least number
abbrev greatest : Value
greatest = number (pos (2 ^ 63 - 1))

abbrev least : Value
least = number (negsuc (2 ^ 63 - 1))

-- `9223372036854775807 + 1`
sum_too_great : plus greatest one (with_cells [] 0) ≡ Err kind.Overflow
sum_too_great = refl

-- `1 // 0`, `1 % 0`, and `"a" // 0`
by_zero : calculate arithmetic.FloorDiv one (number (pos 0)) (with_cells [] 0) ≡ Err kind.Zero
by_zero = refl

rest_by_zero : calculate arithmetic.Modulo one (number (pos 0)) (with_cells [] 0) ≡ Err kind.Zero
rest_by_zero = refl

type_before_zero : calculate arithmetic.FloorDiv (text (codes "a")) (number (pos 0)) (with_cells [] 0) ≡ Err kind.Wrong
type_before_zero = refl

-- `-7 // 2` and `-7 % 2`
rounds_down : calculate arithmetic.FloorDiv (number (negsuc 6)) two (with_cells [] 0) ≡ Ok (number (negsuc 3), with_cells [] 0)
rounds_down = refl

rest_of_it : calculate arithmetic.Modulo (number (negsuc 6)) two (with_cells [] 0) ≡ Ok (one, with_cells [] 0)
rest_of_it = refl

-- the least number by -1, its rest, and its opposite
least_by_minus_one : calculate arithmetic.FloorDiv least (number (negsuc 0)) (with_cells [] 0) ≡ Err kind.Overflow
least_by_minus_one = refl

rest_of_least : calculate arithmetic.Modulo least (number (negsuc 0)) (with_cells [] 0) ≡ Ok (number (pos 0), with_cells [] 0)
rest_of_least = refl

opposite_of_least : negative least (with_cells [] 0) ≡ Err kind.Overflow
opposite_of_least = refl

opposite_of_truth : negative (truth true) (with_cells [] 0) ≡ Err kind.Wrong
opposite_of_truth = refl

-- `True + 1`, `[1] + (2,)`, `(1,) + (2,)`, `"a" + "b"`
truth_and_number : plus (truth true) one (with_cells [] 0) ≡ Err kind.Wrong
truth_and_number = refl

list_and_tuple : plus list_at (value.Cell 1) (with_cells (cell.List (one ∷ []) 0 ∷ cell.Tuple (two ∷ []) ∷ []) 0) ≡ Err kind.Wrong
list_and_tuple = refl

two_tuples : plus list_at list_at (with_cells (cell.Tuple (one ∷ []) ∷ []) 0)
    ≡ Ok (value.Cell 1, with_cells (cell.Tuple (one ∷ []) ∷ cell.Tuple (one ∷ one ∷ []) ∷ []) 0)
two_tuples = refl

two_texts : plus (text (codes "a")) (text (codes "b")) (with_cells [] 0) ≡ Ok (text (codes "ab"), with_cells [] 0)
two_texts = refl

-- `x = [1]`, `y = x`, `x += y`: the one list is `[1, 1]`
extended_once : add_in_place list_at list_at (with_cells (cell.List (one ∷ []) 0 ∷ []) 0)
    ≡ Ok (list_at, with_cells (cell.List (one ∷ one ∷ []) 0 ∷ []) 0)
extended_once = refl

-- a tuple extends a list, and no list a tuple; a frozen list `+= 1` is `type`, and `+= []` `frozen`; a walked one `iterating`
by_a_tuple : add_in_place list_at (value.Frozen (tuple no_trees)) (with_cells (cell.List (one ∷ []) 0 ∷ []) 0)
    ≡ Ok (list_at, with_cells (cell.List (one ∷ []) 0 ∷ []) 0)
by_a_tuple = refl

tuple_by_a_list : add_in_place list_at (value.Frozen (list no_trees)) (with_cells (cell.Tuple (one ∷ []) ∷ []) 0) ≡ Err kind.Wrong
tuple_by_a_list = refl

frozen_by_a_number : add_in_place (value.Frozen (list no_trees)) one (with_cells [] 0) ≡ Err kind.Wrong
frozen_by_a_number = refl

frozen_by_a_list : add_in_place (value.Frozen (list no_trees)) (value.Frozen (list no_trees)) (with_cells [] 0) ≡ Err kind.Frozen
frozen_by_a_list = refl

walked_by_a_list : add_in_place list_at list_at (with_cells (cell.List [] 1 ∷ []) 0) ≡ Err kind.Iterating
walked_by_a_list = refl

-- `"a" < "ab"`, `2 >= 3`, `1 < "a"`, `[] < []`
shorter_text : compare op.Below (text (codes "a")) (text (codes "ab")) (with_cells [] 0) ≡ Ok (true, with_cells [] 0)
shorter_text = refl

two_at_least_three : compare op.AtLeast two (number (pos 3)) (with_cells [] 0) ≡ Ok (false, with_cells [] 0)
two_at_least_three = refl

number_and_text : compare op.Below one (text (codes "a")) (with_cells [] 0) ≡ Err kind.Wrong
number_and_text = refl

two_lists : compare op.Below list_at list_at (with_cells (cell.List [] 0 ∷ []) 0) ≡ Err kind.Wrong
two_lists = refl

-- Arithmetic, sums and order. (Starlark's specification, "Arithmetic operations", "Concatenation"
-- and "Comparisons"; that nothing else has an order, and the bound of numbers, are this project's
-- own.)
use Rattle.std.specs.Prelude.{ℕ, ℤ, Bool, List, ◌++◌, Option, Some, None, Result, Ok, Err}
use Rattle.std.specs.Prelude.{if◌then◌else◌}
use Rattle.std.specs.Ordering.{nat_cmp}
use Rattle.std.specs.declared.cmp.Ordering.{Ordering}
use Rattle.std.specs.Cmp.Lexicographic.{slice_cmp}
use Rattle.numbers.specs.Arithmetic.{sum_of, difference_of, product_of, quotient_of, remainder_of}
use Rattle.numbers.specs.Arithmetic.{opposite_of}
use Rattle.numbers.specs.Order.{order_of, passes}
use Rattle.numbers.specs.declared.arithmetic.NumberError.{NumberError}
use Rattle.numbers.specs.declared.arithmetic.NumberError.TheVariants as refused
use Rattle.numbers.specs.declared.order.Comparison.{Comparison}
use Rattle.depsets.specs.Elements.{same_truth}
use Rattle.values.specs.Shape.{Shape, key, items, shape}
use Rattle.keys.specs.declared.key.Key.{Key}
use Rattle.keys.specs.declared.key.Key.TheVariants as index
use Rattle.values.specs.declared.value.Value.{Value}
use Rattle.ticks.specs.declared.ticks.Kind.{Kind}
use Rattle.ticks.specs.declared.ticks.Kind.TheVariants as kind
use Rattle.printing.specs.Repr.{fits}
use Rattle.operations.specs.declared.arithmetic.Arithmetic.{Arithmetic}
use Rattle.operations.specs.declared.arithmetic.Arithmetic.TheVariants as arithmetic
use Rattle.operations.specs.declared.made.Made.{Made}
use Rattle.operations.specs.declared.made.Made.TheVariants as new
use Rattle.operations.specs.States.{Op, keeping, then_give}
use Rattle.operations.specs.Reading.{number_in, of_type}
use Rattle.operations.specs.Making.{make, sequence, number}
use Rattle.operations.specs.Changes.{extension, extended}

-- the fault of arithmetic that has no result
abbrev pub number_fault : NumberError → Kind
number_fault refused.Overflow = kind.Overflow
number_fault refused.Zero = kind.Zero

-- the number that `+` gives, or its fault
abbrev pub new_number : Result ℤ NumberError → Result Made Kind
new_number (Ok n) = Ok (new.Key (index.Number n))
new_number (Err e) = Err (number_fault e)

-- the string that `+` gives, or its fault
abbrev pub new_text : Result (List ℕ) Kind → Result Made Kind
new_text (Ok t) = Ok (new.Key (index.Text t))
new_text (Err k) = Err k

-- two whole numbers, or two strings, which may be `large`
abbrev pub key_sum : Key → Key → Result Made Kind
key_sum (index.Number a) (index.Number b) = new_number (sum_of a b)
key_sum (index.Text a) (index.Text b) = new_text (fits (a ++ b))
key_sum _ _ = Err kind.Wrong

-- or two lists, which make a new list, or two tuples
abbrev pub added : Shape → Shape → Result Made Kind
added (key j) (key k) = key_sum j k
added (items j xs) (items k ys) =
    if same_truth j k then Ok (sequence j (xs ++ ys)) else Err kind.Wrong
added _ _ = Err kind.Wrong

-- `a + b`
abbrev pub plus : Value → Value → Op Value
plus a b s = make (added (shape s.heap a) (shape s.heap b)) s

-- `x += y`: a list is extended in place by a list or a tuple, and all else is `x + y`
abbrev pub extended_or_sum : Option (List Value) → Value → Value → Op Value
extended_or_sum (Some ys) x y s = extended ys x s
extended_or_sum None x y s = plus x y s

-- `x += y`
abbrev pub add_in_place : Value → Value → Op Value
add_in_place x y s = extended_or_sum (extension (shape s.heap x) (shape s.heap y)) x y s

-- the four operators that only whole numbers have
abbrev pub calculated : Arithmetic → ℤ → ℤ → Result ℤ NumberError
calculated arithmetic.Minus a b = difference_of a b
calculated arithmetic.Times a b = product_of a b
calculated arithmetic.FloorDiv a b = quotient_of a b
calculated arithmetic.Modulo a b = remainder_of a b

-- a number as a value, or its fault
abbrev pub number_value : Result ℤ NumberError → Result Value Kind
number_value (Ok n) = Ok (number n)
number_value (Err e) = Err (number_fault e)

-- `a - b`, `a * b`, `a // b`, `a % b`: two whole numbers; `type`, then `zero`, then `overflow`
abbrev pub calculate : Arithmetic → Value → Value → Op Value
calculate o a b s =
    keeping (of_type (number_in (shape s.heap a)) (λ x. of_type (number_in (shape s.heap b)) (λ y.
    number_value (calculated o x y)))) s

-- `-a`
abbrev pub negative : Value → Op Value
negative a s = keeping (of_type (number_in (shape s.heap a)) (λ x. number_value (opposite_of x))) s

-- two whole numbers, or two strings by their bytes
abbrev pub key_order : Key → Key → Result Ordering Kind
key_order (index.Number a) (index.Number b) = Ok (order_of a b)
key_order (index.Text a) (index.Text b) = Ok (slice_cmp nat_cmp a b)
key_order _ _ = Err kind.Wrong

-- the order of two values that have one; all else is `type`
abbrev pub order_in : Shape → Shape → Result Ordering Kind
order_in (key j) (key k) = key_order j k
order_in _ _ = Err kind.Wrong

-- `a < b`, `a <= b`, `a > b`, `a >= b`
abbrev pub compare : Comparison → Value → Value → Op Bool
compare o a b s =
    keeping (then_give (order_in (shape s.heap a) (shape s.heap b)) (λ r. Ok (passes o r))) s

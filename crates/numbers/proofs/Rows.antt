-- Rows by computation.
use Rattle.std.specs.Prelude.{◌≡◌, ◌∷◌, [], pos, negsuc, Ok, Err, Some, None, refl, true, false}
use Rattle.numbers.specs.declared.arithmetic.NumberError.TheVariants.{Overflow, Zero}
use Rattle.numbers.specs.declared.order.Comparison.TheVariants as op
use Rattle.numbers.specs.Arithmetic.{sum_of, difference_of, product_of, quotient_of, remainder_of, opposite_of}
use Rattle.numbers.specs.Order.{order_of, passes}
use Rattle.numbers.specs.Places.{place_of}
use Rattle.numbers.specs.Ranges.{range_length, range_of}

-- 9223372036854775807 + 1
greatest_and_one : sum_of (pos 9223372036854775807) (pos 1) ≡ Err Overflow
greatest_and_one = refl

least_less_one : difference_of (negsuc 9223372036854775807) (pos 1) ≡ Err Overflow
least_less_one = refl

products : product_of (negsuc 2) (negsuc 3) ≡ Ok (pos 12)
products = refl

-- 2^32 * -2^31 is the least number
least_product : product_of (pos 4294967296) (negsuc 2147483647) ≡ Ok (negsuc 9223372036854775807)
least_product = refl

product_over : product_of (pos 4294967296) (pos 2147483648) ≡ Err Overflow
product_over = refl

-- 1 // 0 and 1 % 0
by_zero : quotient_of (pos 1) (pos 0) ≡ Err Zero
by_zero = refl

rest_by_zero : remainder_of (pos 1) (pos 0) ≡ Err Zero
rest_by_zero = refl

-- -7 // 2 and -7 % 2
down : quotient_of (negsuc 6) (pos 2) ≡ Ok (negsuc 3)
down = refl

rest : remainder_of (negsuc 6) (pos 2) ≡ Ok (pos 1)
rest = refl

-- 7 // -2 and 7 % -2
down_other : quotient_of (pos 7) (negsuc 1) ≡ Ok (negsuc 3)
down_other = refl

rest_other : remainder_of (pos 7) (negsuc 1) ≡ Ok (negsuc 0)
rest_other = refl

-- -7 // -2 and -7 % -2
down_both : quotient_of (negsuc 6) (negsuc 1) ≡ Ok (pos 3)
down_both = refl

rest_both : remainder_of (negsuc 6) (negsuc 1) ≡ Ok (negsuc 0)
rest_both = refl

-- -6 // 2 and -6 % 2
even : quotient_of (negsuc 5) (pos 2) ≡ Ok (negsuc 2)
even = refl

even_rest : remainder_of (negsuc 5) (pos 2) ≡ Ok (pos 0)
even_rest = refl

least_by_minus_one : quotient_of (negsuc 9223372036854775807) (negsuc 0) ≡ Err Overflow
least_by_minus_one = refl

least_rest : remainder_of (negsuc 9223372036854775807) (negsuc 0) ≡ Ok (pos 0)
least_rest = refl

least_turned : opposite_of (negsuc 9223372036854775807) ≡ Err Overflow
least_turned = refl

below : passes op.Below (order_of (negsuc 0) (pos 0)) ≡ true
below = refl

at_least : passes op.AtLeast (order_of (negsuc 0) (pos 0)) ≡ false
at_least = refl

last : place_of (negsuc 0) 3 ≡ Some 2
last = refl

past_the_end : place_of (pos 3) 3 ≡ None
past_the_end = refl

before_the_start : place_of (negsuc 3) 3 ≡ None
before_the_start = refl

three : range_of (negsuc 0) (pos 2) ≡ Some (negsuc 0 ∷ pos 0 ∷ pos 1 ∷ [])
three = refl

backwards : range_of (pos 2) (pos 1) ≡ Some []
backwards = refl

-- from the least number to the greatest: no overflow, but `large`
widest : range_of (negsuc 9223372036854775807) (pos 9223372036854775807) ≡ None
widest = refl

too_many : range_of (pos 0) (pos 1048577) ≡ None
too_many = refl

as_many_as_may_be : range_length (pos 0) (pos 1048576) ≡ 1048576
as_many_as_may_be = refl

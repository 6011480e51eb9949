-- The language's whole numbers, which have 64 bits and a sign, and its arithmetic.
-- (Starlark's specification, "Arithmetic operations"; the bound and its refusal are this project's
-- own.)
use Rattle.std.specs.Prelude.{◌^◌, ℤ, pos, negsuc, neg_ℤ, ◌+ℤ◌, ◌-ℤ◌, ◌*ℤ◌, nat_lt, Bool, Result}
use Rattle.std.specs.Prelude.{Ok, Err, if◌then◌else◌}
use Rattle.std.specs.Ordering.{int_eq}
use Rattle.numbers.specs.Division.{floor_div, floor_mod}
use Rattle.numbers.specs.declared.arithmetic.NumberError.{NumberError}
use Rattle.numbers.specs.declared.arithmetic.NumberError.TheVariants.{Overflow, Zero}

-- the number has 64 bits
abbrev pub fits : ℤ → Bool
fits (pos n) = nat_lt n (2 ^ 63)
fits (negsuc n) = nat_lt n (2 ^ 63)

-- the number, or `overflow`
abbrev pub bounded : ℤ → Result ℤ NumberError
bounded z = if fits z then Ok z else Err Overflow

-- `a + b`; this and the next three are the number, or `overflow`
abbrev pub sum_of : ℤ → ℤ → Result ℤ NumberError
sum_of a b = bounded (a +ℤ b)

-- `a - b`
abbrev pub difference_of : ℤ → ℤ → Result ℤ NumberError
difference_of a b = bounded (a -ℤ b)

-- `a * b`
abbrev pub product_of : ℤ → ℤ → Result ℤ NumberError
product_of a b = bounded (a *ℤ b)

-- `-a`, which overflows at the least number alone
abbrev pub opposite_of : ℤ → Result ℤ NumberError
opposite_of a = bounded (neg_ℤ a)

-- `zero` at the divisor 0, before all else
abbrev pub unless_zero : ℤ → Result ℤ NumberError → Result ℤ NumberError
unless_zero b r = if int_eq b (pos 0) then Err Zero else r

-- `a // b`, rounded down
abbrev pub quotient_of : ℤ → ℤ → Result ℤ NumberError
quotient_of a b = unless_zero b (bounded (floor_div a b))

-- `a % b`, with the sign of the divisor
abbrev pub remainder_of : ℤ → ℤ → Result ℤ NumberError
remainder_of a b = unless_zero b (bounded (floor_mod a b))

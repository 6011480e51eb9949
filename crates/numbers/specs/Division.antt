-- Division of whole numbers that rounds down, over all whole numbers.
-- (Starlark's specification, "Arithmetic operations": `//` is floored division, and `%` has the
-- sign of the divisor.)
use Rattle.std.specs.Prelude.{◌≡◌, zero, suc, ◌-◌, ◌%◌, ◌/◌, ℤ, pos, negsuc, neg_ℤ, ◌+ℤ◌, ◌*ℤ◌}
use Rattle.std.specs.Prelude.{◌≤ℤ◌, ◌<ℤ◌, ◌≢◌}

-- The greatest whole number that isn't above the quotient of the two, by their signs. It is what
-- `//` gives where the divisor isn't 0. (`negsuc n` is the number below 0 whose size is n + 1.)
abbrev pub floor_div : ℤ → ℤ → ℤ
floor_div (pos a) (pos b) = pos (a / b)
floor_div (negsuc a) (pos b) = negsuc (a / b)
floor_div (negsuc a) (negsuc b) = pos (suc a / suc b)
floor_div (pos zero) (negsuc b) = pos 0
floor_div (pos (suc a)) (negsuc b) = negsuc (a / suc b)

-- what it leaves, which has the sign of the divisor: what `%` gives where that isn't 0
abbrev pub floor_mod : ℤ → ℤ → ℤ
floor_mod (pos a) (pos b) = pos (a % b)
floor_mod (negsuc a) (pos b) = pos (b - 1 - a % b)
floor_mod (negsuc a) (negsuc b) = neg_ℤ (pos (suc a % suc b))
floor_mod (pos zero) (negsuc b) = pos 0
floor_mod (pos (suc a)) (negsuc b) = neg_ℤ (pos (b - a % suc b))

-- r has the sign of b, or is 0, and is smaller than b
abbrev pub IsRest : ℤ → ℤ → Type 0
IsRest (pos b) r = (pos 0 ≤ℤ r) × (r <ℤ pos b)
IsRest (negsuc b) r = (negsuc b <ℤ r) × (r ≤ℤ pos 0)

-- b goes q times into a, and leaves r
abbrev pub IsDivision : ℤ → ℤ → ℤ → ℤ → Type 0
IsDivision a b q r = (a ≡ q *ℤ b +ℤ r) × IsRest b r

-- the quotient and the rest make the number
abbrev pub Divided : ℤ → ℤ → Type 0
Divided a b = b ≢ pos 0 → IsDivision a b (floor_div a b) (floor_mod a b)

-- and no other two numbers do
abbrev pub DividedOnce : ℤ → ℤ → Type 0
DividedOnce a b = (q r : ℤ) → IsDivision a b q r → (q ≡ floor_div a b) × (r ≡ floor_mod a b)

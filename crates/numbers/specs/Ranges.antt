-- The numbers of `range(a, b)`: from a on, below b. (Starlark's specification, "range".)
use Rattle.std.specs.Prelude.{ℕ, zero, suc, ℤ, pos, negsuc, ◌+ℤ◌, ◌-ℤ◌, List, [], ◌∷◌, Option, Some}
use Rattle.std.specs.Prelude.{None, nat_lt, if◌then◌else◌}

-- how many items a list, a tuple or a dict has at most (this project's own)
abbrev pub MOST_ITEMS : ℕ
MOST_ITEMS = 1048576

-- a number, or 0 in place of a negative one
abbrev pub natural : ℤ → ℕ
natural (pos n) = n
natural (negsuc n) = 0

-- how many numbers `range(a, b)` gives
abbrev pub range_length : ℤ → ℤ → ℕ
range_length a b = natural (b -ℤ a)

-- so many numbers, each one more than the last
abbrev pub counted : ℕ → ℤ → List ℤ
counted zero a = []
counted (suc n) a = a ∷ counted n (a +ℤ pos 1)

-- the numbers from a on, below b, none where b isn't above a
abbrev pub range_numbers : ℤ → ℤ → List ℤ
range_numbers a b = counted (range_length a b) a

-- the numbers that `range(a, b)` gives, at most as many as a list may have; None is the fault
-- `large`
abbrev pub range_of : ℤ → ℤ → Option (List ℤ)
range_of a b = if nat_lt MOST_ITEMS (range_length a b) then None else Some (range_numbers a b)

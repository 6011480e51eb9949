-- Laws of the number that digits spell.
use Rattle.std.proofs.Common.{ℕ, suc, ◌≡◌, ◌+◌, ◌-◌, ◌*◌, ◌/◌, ◌<◌, ◌≤◌, List, [], ◌∷◌, length, get_or, drop, true, nat_lt, drop-cons, arith}
use Rattle.std.proofs.lemmas.Bool.Decides.{nat_tests}
use Rattle.lexer.specs.Begins.{value_after, greatest_number}

-- more digits make no number smaller
pub value_grows : (value : ℕ) (digits : List ℕ) → value ≤ value_after value digits
value_grows value [] = omega arith
value_grows value (d ∷ ds) = omega (arith, value_grows (value * 10 + (d - 48)) ds)

-- a value that one more digit makes too great stays too great
pub too_great : (value whole digit i : ℕ) (digits : List ℕ) → i < length digits → digit ≡ get_or digits i 0 - 48
    → (greatest_number - digit) / 10 < value → value_after value (drop i digits) ≡ whole → nat_lt greatest_number whole ≡ true
too_great value whole digit i digits h e k w =
    let next : value_after (value * 10 + (get_or digits i 0 - 48)) (drop (suc i) digits) ≡ whole = rw (drop-cons digits i 0) at w in
    let grown : value * 10 + (get_or digits i 0 - 48) ≤ whole = rw next at (value_grows (value * 10 + (get_or digits i 0 - 48)) (drop (suc i) digits)) in
    let above : greatest_number < whole = omega arith in
    grind (arith, nat_tests)

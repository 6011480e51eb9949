use Rattle.std.proofs.Common.{◌≡◌, ◌≤◌, ◌∷◌, drop}
use Rattle.std.specs.List.{list_all}
use Rattle.lexer.specs.Begins.{is_digit, value_after, greatest_number}
use Rattle.lexer.proofs.numbers.value_of.Given as goal

-- the bytes that are left take the value to that of all, and are digits if all are
abbrev pub invariant-loop-b : goal.invariant-loop-b
invariant-loop-b l =
    (value_after l.value (drop l.b-index l.rest) ≡ value_after 0 (l.first ∷ l.rest)) × (l.value ≤ greatest_number)
    × (list_all is_digit (drop l.b-index l.rest) ≡ list_all is_digit l.rest)

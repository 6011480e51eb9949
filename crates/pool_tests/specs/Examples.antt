-- The worked examples of the tests: outcomes as numbers, and as texts. (This project's own.)
use Rattle.std.specs.Prelude.{ℕ, ◌+◌, ◌-◌, ◌^◌, ◌%◌, List, [], ◌∷◌, ◌++◌, length, slice_index_or}

-- of 64 bits
abbrev plus : ℕ → ℕ → ℕ
plus a b = (a + b) % 2 ^ 64

-- a number from the outcomes of the first and the last dependency
abbrev pub mixed : ℕ → List ℕ → ℕ
mixed n us =
    plus n
    (plus (plus (slice_index_or us 0 0) (slice_index_or us 0 0))
    (slice_index_or us (length us - 1) 0))

-- the texts one after the other
abbrev pub joined : List (List ℕ) → List ℕ
joined [] = []
joined (u ∷ us) = u ++ joined us

-- and in square brackets
abbrev pub bracketed : List (List ℕ) → List ℕ
bracketed us = 91 ∷ (joined us ++ 93 ∷ [])

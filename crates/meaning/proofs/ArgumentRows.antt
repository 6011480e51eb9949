-- What the parameters of `def f(a, b = 9)` get, of which the function has a slot more.
use Rattle.std.proofs.Common.{◌≡◌, ℕ, List, [], ◌∷◌, Option, Some, None, refl}
use Rattle.std.specs.Prelude.{codes}
use Rattle.program_tree.specs.Names.{Name}
use Rattle.meaning.specs.Outcome.{Slots}
use Rattle.meaning.specs.Entry.{entry}

abbrev fits : List ℕ → List (Name × ℕ) → Option (Slots ℕ)
fits vs ns = entry (codes "a" ∷ codes "b" ∷ []) 3 (9 ∷ []) (record { items = vs; named = ns })

abbrev gets : ℕ → ℕ → Option (Slots ℕ)
gets a b = Some (Some a ∷ Some b ∷ None ∷ [])

abbrev a_is : ℕ → Name × ℕ
a_is n = (codes "a", n)

abbrev b_is : ℕ → Name × ℕ
b_is n = (codes "b", n)

abbrev c_is : ℕ → Name × ℕ
c_is n = (codes "c", n)

-- f(1), f(1, 2), f(1, b = 2), f(a = 1), f(a = 1, b = 2), f(b = 2, a = 1)
fitting : (fits (1 ∷ []) [] ≡ gets 1 9) × (fits (1 ∷ 2 ∷ []) [] ≡ gets 1 2) ×
    (fits (1 ∷ []) (b_is 2 ∷ []) ≡ gets 1 2) × (fits [] (a_is 1 ∷ []) ≡ gets 1 9) ×
    (fits [] (a_is 1 ∷ b_is 2 ∷ []) ≡ gets 1 2) × (fits [] (b_is 2 ∷ a_is 1 ∷ []) ≡ gets 1 2)
unfolding entry
fitting = (refl, refl, refl, refl, refl, refl)

-- f(), f(b = 2), f(1, 2, 3), f(1, a = 2), f(1, 2, b = 3), f(1, c = 2), f(1, 2, c = 3), f(a = 1, c = 2)
failing : (fits [] [] ≡ None) × (fits [] (b_is 2 ∷ []) ≡ None) × (fits (1 ∷ 2 ∷ 3 ∷ []) [] ≡ None) ×
    (fits (1 ∷ []) (a_is 2 ∷ []) ≡ None) × (fits (1 ∷ 2 ∷ []) (b_is 3 ∷ []) ≡ None) ×
    (fits (1 ∷ []) (c_is 2 ∷ []) ≡ None) × (fits (1 ∷ 2 ∷ []) (c_is 3 ∷ []) ≡ None) ×
    (fits [] (a_is 1 ∷ c_is 2 ∷ []) ≡ None)
unfolding entry
failing = (refl, refl, refl, refl, refl, refl, refl, refl)

-- the same of `def f()` and of `def f(a = 1, b = 2)`
abbrev none_fits : List ℕ → List (Name × ℕ) → Option (Slots ℕ)
none_fits vs ns = entry [] 1 [] (record { items = vs; named = ns })

abbrev both_fit : List ℕ → List (Name × ℕ) → Option (Slots ℕ)
both_fit vs ns = entry (codes "a" ∷ codes "b" ∷ []) 2 (1 ∷ 2 ∷ []) (record { items = vs; named = ns })

others : (none_fits [] [] ≡ Some (None ∷ [])) × (none_fits (1 ∷ []) [] ≡ None) × (none_fits [] (a_is 1 ∷ []) ≡ None) ×
    (both_fit [] [] ≡ Some (Some 1 ∷ Some 2 ∷ [])) × (both_fit [] (b_is 7 ∷ []) ≡ Some (Some 1 ∷ Some 7 ∷ [])) ×
    (both_fit (7 ∷ []) [] ≡ Some (Some 7 ∷ Some 2 ∷ [])) × (both_fit (7 ∷ []) (b_is 8 ∷ []) ≡ Some (Some 7 ∷ Some 8 ∷ []))
unfolding entry
others = (refl, refl, refl, refl, refl, refl, refl)

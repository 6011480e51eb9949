-- What the tests on texts say, without a way of looking. (This project's own; what is tested is the
-- Starlark specification's, "Built-in methods" and "Membership tests".)
use Rattle.std.specs.Prelude.{◌≡◌, ◌↔◌, ◌<◌, ℕ, true, false, List, [], ◌∷◌, ◌++◌, length, Some}
use Rattle.strings.specs.Affixes.{begins, ends}
use Rattle.strings.specs.Joining.{glued}
use Rattle.strings.specs.Parts.{is_part, first_place}
use Rattle.strings.specs.Splitting.{parts}

-- a text begins with the bytes p exactly where it is p and a rest
abbrev pub BeginsSays : List ℕ → List ℕ → Type 0
BeginsSays p t = (begins p t ≡ true) ↔ ((rest : List ℕ) × (t ≡ p ++ rest))

-- it ends with them exactly where it is a front and p
abbrev pub EndsSays : List ℕ → List ℕ → Type 0
EndsSays p t = (ends p t ≡ true) ↔ ((front : List ℕ) × (t ≡ front ++ p))

-- they stand in it exactly where it is a front, p and a rest
abbrev pub PartSays : List ℕ → List ℕ → Type 0
PartSays p t =
    (is_part p t ≡ true) ↔ ((front : List ℕ) × (rest : List ℕ) × (t ≡ front ++ (p ++ rest)))

-- the parts of a text, with the separator between each and the next, make it again
abbrev pub PartsMakeTheText : List ℕ → List ℕ → Type 0
PartsMakeTheText sep t = 0 < length sep → glued sep (parts sep t) ≡ t

-- Each part but the last ends where the separator first stands, from the part's own beginning on;
-- the last doesn't hold it.
abbrev pub EndAtTheFirst : List ℕ → List (List ℕ) → Type 0
EndAtTheFirst sep [] = ⊥
EndAtTheFirst sep (p ∷ []) = is_part sep p ≡ false
EndAtTheFirst sep (p ∷ q ∷ ps) =
    (first_place sep (p ++ sep) ≡ Some (length p)) × EndAtTheFirst sep (q ∷ ps)

-- the parts of a text end so, where the separator isn't empty
abbrev pub PartsEndAtTheFirst : List ℕ → List ℕ → Type 0
PartsEndAtTheFirst sep t = 0 < length sep → EndAtTheFirst sep (parts sep t)

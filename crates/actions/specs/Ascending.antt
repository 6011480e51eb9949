-- Texts in the order of their bytes. (This project's own.)
use Rattle.std.specs.Prelude.{◌≡◌, ℕ, List, [], ◌∷◌}
use Rattle.std.specs.Cmp.Lexicographic.{slice_cmp}
use Rattle.std.specs.Ordering.{nat_cmp}
use Rattle.std.specs.declared.cmp.Ordering.TheVariants.{Less}

module _ {X : Type 0} where
  -- each item of a list has the property
  abbrev pub Each : (X → Type 0) → List X → Type 0
  Each P [] = Unit {0}
  Each P (x ∷ xs) = P x × Each P xs

-- texts in the order of their bytes, no two the same
abbrev pub AreAscending : List (List ℕ) → Type 0
AreAscending [] = Unit {0}
AreAscending (x ∷ xs) = Each (λ y. slice_cmp nat_cmp x y ≡ Less) xs × AreAscending xs

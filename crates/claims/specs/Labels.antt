-- The labels of a conflict, said without sorting: in the order of their bytes, and each as often as
-- its actions declare the path. (This project's own rule.)
use Rattle.std.specs.Prelude.{◌≡◌, ℕ, false, ◌&&◌, List, [], ◌∷◌, length}
use Rattle.std.specs.List.{filter}
use Rattle.std.specs.Cmp.Lexicographic.{slice_cmp}
use Rattle.std.specs.Ordering.{nat_cmp, is_gt}
use Rattle.std.specs.Str.{bytes_eq}
use Rattle.actions.specs.Ascending.{Each}
use Rattle.claims.specs.Clashes.{declares}
use Rattle.claims.specs.Owned.{Owned}

-- texts in the order of their bytes; some may be the same
abbrev pub AreInOrder : List (List ℕ) → Type 0
AreInOrder [] = Unit {0}
AreInOrder (x ∷ xs) = Each (λ y. is_gt (slice_cmp nat_cmp x y) ≡ false) xs × AreInOrder xs

-- how often a label stands there
abbrev pub times : List ℕ → List (List ℕ) → ℕ
times l ls = length (filter (bytes_eq l) ls)

-- how many actions of the label declare the path
abbrev pub declaring : List ℕ → List ℕ → List Owned → ℕ
declaring p l os = length (filter (λ o. declares p o && bytes_eq l o.label) os)

-- The labels of the conflict on a path: in order, and each as often as actions of that label
-- declare the path.
pub record AreLabels (os : List Owned) (p : List ℕ) (ls : List (List ℕ)) : Type 0 where
  pub ordered : AreInOrder ls
  pub counted : (l : List ℕ) → times l ls ≡ declaring p l os

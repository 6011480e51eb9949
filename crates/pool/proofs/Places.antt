-- How often a number stands in a list, by the places of the list.
use Rattle.std.proofs.Common.{◌≡◌, ◌≢◌, ℕ, zero, suc, ◌<◌, ◌≤◌, List, [], ◌∷◌, length, map, get_or, sym, refl, ap, subst, arith}
use mathlib.Core.Logic.{dite}
use native.Mathlib.Decide.{ℕ_discrete}
use Rattle.board.specs.Journal.{times, deps}
use Rattle.board.proofs.Counts.{times_here, times_else}

pub times_some : (xs : List ℕ) (x k : ℕ) → k < length xs → get_or xs k 0 ≡ x → 0 < times x xs
times_some [] x k lt e = absurd (omega arith)
times_some (y ∷ ys) x zero lt e = subst (λ (j : ℕ). 0 < times j (y ∷ ys)) e (let h = times_here y ys in omega arith)
times_some (y ∷ ys) x (suc k) lt e = let r = times_some ys x k (omega arith) e in omega arith

-- a number that stands in a list has a place there
pub times_at : (xs : List ℕ) (x : ℕ) → 0 < times x xs → (k : ℕ) × (k < length xs) × (get_or xs k 0 ≡ x)
times_at [] x p = absurd (omega arith)
times_at (y ∷ ys) x p = dite (ℕ_discrete x y)
    (λ e. (0, omega arith, sym e))
    (λ ne. let t = times_else x y ys ne in let r = times_at ys x (omega arith) in (suc r.0, (let lt = r.1 in omega arith), r.2))

-- where no number stands twice, two places have two numbers
pub apart : (xs : List ℕ) → ((x : ℕ) → times x xs ≤ 1) → (i j : ℕ) → i < j → j < length xs → get_or xs i 0 ≢ get_or xs j 0
apart [] one i j lt le e = omega arith
apart (y ∷ ys) one i zero lt le e = omega arith
apart (y ∷ ys) one zero (suc j) lt le e = let s = times_some ys y j (omega arith) (sym e) in let h = times_here y ys in let o = one y in omega arith
apart (y ∷ ys) one (suc i) (suc j) lt le e = apart ys (λ x. let o = one x in omega arith) i j (omega arith) (omega arith) e

module _ {X : Type 0} (f : X → List ℕ) where
  pub at_map : (ls : List X) (n : ℕ) (l : X) → n < length ls → l ≡ get_or ls n l → deps (map f ls) n ≡ f l
  at_map [] n l lt e = absurd (omega arith)
  at_map (y ∷ ys) zero l lt e = ap f (sym e)
  at_map (y ∷ ys) (suc n) l lt e = at_map ys n l (omega arith) e

  pub past_map : (ls : List X) (n : ℕ) → length ls ≤ n → deps (map f ls) n ≡ []
  past_map [] n le = refl
  past_map (y ∷ ys) zero le = absurd (omega arith)
  past_map (y ∷ ys) (suc n) le = past_map ys n (omega arith)

-- the dependencies of a number that is no node are none
pub deps_inside : (plan : List (List ℕ)) (u d : ℕ) → 0 < times d (deps plan u) → u < length plan
deps_inside [] u d p = absurd (omega arith)
deps_inside (l ∷ ls) zero d p = omega arith
deps_inside (l ∷ ls) (suc u) d p = let r = deps_inside ls u d p in omega arith

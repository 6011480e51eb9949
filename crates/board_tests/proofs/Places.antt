-- How often a number stands in a list, by the places of the list.
use Rattle.std.proofs.Common.{◌≡◌, ◌≢◌, ℕ, zero, suc, ◌<◌, ◌≤◌, List, [], ◌∷◌, length, map, get_or, sym, refl, ap, subst, arith}
use mathlib.Core.Logic.{dite}
use native.Mathlib.Decide.{ℕ_discrete}
use Rattle.board.specs.Journal.{times, deps}
use Rattle.board.proofs.Counts.{times_here, times_else}

pub times_some : (xs : List ℕ) (x k : ℕ) → k < length xs → get_or xs k 0 ≡ x → 0 < times x xs
times_some [] x k lt e = absurd (omega arith)
times_some (y ∷ ys) x zero lt e = subst (λ (j : ℕ). 0 < times j (y ∷ ys)) e (let h = times_here y ys in omega arith)
times_some (y ∷ ys) x (suc k) lt e = let r = times_some ys x k (omega arith) e in omega arith

pub times_none : (xs : List ℕ) (x : ℕ) → ((k : ℕ) → k < length xs → get_or xs k 0 ≢ x) → times x xs ≡ 0
times_none [] x ne = refl
times_none (y ∷ ys) x ne =
    let t = times_else x y ys (λ e. ne 0 (omega arith) (sym e)) in
    let r = times_none ys x (λ k lt. ne (suc k) (omega arith)) in omega arith

-- a number that stands in a list has a place there
pub times_at : (xs : List ℕ) (x : ℕ) → 0 < times x xs → (k : ℕ) × (k < length xs) × (get_or xs k 0 ≡ x)
times_at [] x p = absurd (omega arith)
times_at (y ∷ ys) x p = dite (ℕ_discrete x y)
    (λ e. (0, omega arith, sym e))
    (λ ne. let t = times_else x y ys ne in let r = times_at ys x (omega arith) in (suc r.0, (let lt = r.1 in omega arith), r.2))

-- where no number stands twice, two places have two numbers
pub apart : (xs : List ℕ) → ((x : ℕ) → times x xs ≤ 1) → (i j : ℕ) → i < j → j < length xs → get_or xs i 0 ≢ get_or xs j 0
apart [] one i j lt le e = omega arith
apart (y ∷ ys) one i zero lt le e = omega arith
apart (y ∷ ys) one zero (suc j) lt le e = let s = times_some ys y j (omega arith) (sym e) in let h = times_here y ys in let o = one y in omega arith
apart (y ∷ ys) one (suc i) (suc j) lt le e = apart ys (λ x. let o = one x in omega arith) i j (omega arith) (omega arith) e

abbrev IsAscending : List ℕ → Type 0
IsAscending xs = (k : ℕ) → suc k < length xs → get_or xs k 0 < get_or xs (suc k) 0

above : (y : ℕ) (ys : List ℕ) → IsAscending (y ∷ ys) → (k : ℕ) → k < length ys → y < get_or ys k 0
above y ys up zero lt = up 0 (omega arith)
above y ys up (suc k) lt = let a = above y ys up k (omega arith) in let b = up (suc k) (omega arith) in omega arith

pub ascending_once : (xs : List ℕ) → IsAscending xs → (x : ℕ) → times x xs ≤ 1
ascending_once [] up x = omega arith
ascending_once (y ∷ ys) up x = dite (ℕ_discrete x y)
    (λ e. let z = times_none ys x (λ k lt q. let a = above y ys up k lt in omega arith) in let h = times_here y ys in subst (λ (j : ℕ). times j (y ∷ ys) ≤ 1) (sym e) (let z' : times y ys ≡ 0 = subst (λ (j : ℕ). times j ys ≡ 0) e z in omega arith))
    (λ ne. let t = times_else x y ys ne in let r = ascending_once ys (λ k lt. up (suc k) (omega arith)) x in omega arith)

module _ {X : Type 0} (f : X → List ℕ) where
  pub at_map : (ls : List X) (n : ℕ) (l : X) → n < length ls → l ≡ get_or ls n l → deps (map f ls) n ≡ f l
  at_map [] n l lt e = absurd (omega arith)
  at_map (y ∷ ys) zero l lt e = ap f (sym e)
  at_map (y ∷ ys) (suc n) l lt e = at_map ys n l (omega arith) e

  pub past_map : (ls : List X) (n : ℕ) → length ls ≤ n → deps (map f ls) n ≡ []
  past_map [] n le = refl
  past_map (y ∷ ys) zero le = absurd (omega arith)
  past_map (y ∷ ys) (suc n) le = past_map ys n (omega arith)

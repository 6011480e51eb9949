-- Pairs of a list.
use Rattle.std.proofs.Common.{◌≡◌, ◌⊎◌, inl, inr, ◌<◌, ◌||◌, ℕ, zero, suc, Bool, true, false, cond, List, [], ◌∷◌, length, get_or, refl, sym, ap, subst, arith}
use Rattle.std.specs.List.{filter, list_any}
use Rattle.std.proofs.lemmas.Bool.{true≢false}
use Rattle.claims.specs.Clashes.{some_pair}

pub either : (a b : Bool) → (a || b) ≡ true → (a ≡ true) ⊎ (b ≡ true)
either true b h = inl refl
either false b h = inr h

pub one_of : (a b : Bool) → b ≡ true → (a || b) ≡ true
one_of true b h = refl
one_of false b h = h

pub first_of : (a b : Bool) → a ≡ true → (a || b) ≡ true
first_of a b h = ap (λ x. x || b) h

pub neither : (a b : Bool) → (a || b) ≡ false → (a ≡ false) × (b ≡ false)
neither true b h = absurd (true≢false h)
neither false b h = (refl, h)

pub not_true : (b : Bool) → (b ≡ true → ⊥) → b ≡ false
not_true true h = absurd (h refl)
not_true false h = refl

module _ {X : Type 0} where
  -- a place of one that passes a test
  pub record Passes (t : X → Bool) (xs : List X) : Type 0 where
    pub place : ℕ
    pub within : place < length xs
    pub passes : (d : X) → t (get_or xs place d) ≡ true

  later_passes : (t : X → Bool) (x : X) (xs : List X) → Passes t xs → Passes t (x ∷ xs)
  later_passes t x xs h = let low = h.within in record { place = suc h.place; within = omega (arith, low); passes = h.passes }

  -- one that passes two tests, of those that a filter keeps
  pub any_kept : (t P : X → Bool) (xs : List X) → list_any P (filter t xs) ≡ true
      → (i : ℕ) × (i < length xs) × ((d : X) → (t (get_or xs i d) ≡ true) × (P (get_or xs i d) ≡ true))
  any_kept t P [] h = absurd (true≢false (sym h))
  any_kept t P (x ∷ xs) h = at (t x) refl h (any_kept t P xs)
    where
      next : (i : ℕ) × (i < length xs) × ((d : X) → (t (get_or xs i d) ≡ true) × (P (get_or xs i d) ≡ true))
          → (i : ℕ) × (i < length (x ∷ xs)) × ((d : X) → (t (get_or (x ∷ xs) i d) ≡ true) × (P (get_or (x ∷ xs) i d) ≡ true))
      next (i, low, is) = (suc i, omega (arith, low), is)

      at : (b : Bool) → t x ≡ b → list_any P (cond b (x ∷ filter t xs) (filter t xs)) ≡ true
          → (list_any P (filter t xs) ≡ true → (i : ℕ) × (i < length xs) × ((d : X) → (t (get_or xs i d) ≡ true) × (P (get_or xs i d) ≡ true)))
          → (i : ℕ) × (i < length (x ∷ xs)) × ((d : X) → (t (get_or (x ∷ xs) i d) ≡ true) × (P (get_or (x ∷ xs) i d) ≡ true))
      at true e g rest = elim (either (P x) (list_any P (filter t xs)) g) [
        | inl p ↦ (0, omega arith, λ d. (e, p))
        | inr q ↦ next (rest q)
      ]
      at false e g rest = next (rest g)

  pub any_of_kept : (t P : X → Bool) (xs : List X) (i : ℕ) (d : X) → i < length xs → t (get_or xs i d) ≡ true → P (get_or xs i d) ≡ true
      → list_any P (filter t xs) ≡ true
  any_of_kept t P [] i d low h g = absurd (omega (arith, low))
  any_of_kept t P (x ∷ xs) zero d low h g = subst (λ b. list_any P (cond b (x ∷ filter t xs) (filter t xs)) ≡ true) (sym h) (first_of (P x) (list_any P (filter t xs)) g)
  any_of_kept t P (x ∷ xs) (suc i) d low h g = at (t x) (any_of_kept t P xs i d (omega (arith, low)) h g)
    where
      at : (b : Bool) → list_any P (filter t xs) ≡ true → list_any P (cond b (x ∷ filter t xs) (filter t xs)) ≡ true
      at true r = one_of (P x) (list_any P (filter t xs)) r
      at false r = r

  -- two places that pass a test, and what they do together
  pub record PairAt (t : X → Bool) (P : X → X → Bool) (xs : List X) : Type 0 where
    pub one : ℕ
    pub other : ℕ
    pub apart : one < other
    pub within : other < length xs
    pub first : (d : X) → t (get_or xs one d) ≡ true
    pub second : (d : X) → t (get_or xs other d) ≡ true
    pub does : (d : X) → P (get_or xs one d) (get_or xs other d) ≡ true

  later_pair : (t : X → Bool) (P : X → X → Bool) (x : X) (xs : List X) → PairAt t P xs → PairAt t P (x ∷ xs)
  later_pair t P x xs h =
      let a = h.apart in
      let w = h.within in record {
        one = suc h.one;
        other = suc h.other;
        apart = omega (arith, a);
        within = omega (arith, w);
        first = h.first;
        second = h.second;
        does = h.does;
      }

  pub pair_at : (t : X → Bool) (P : X → X → Bool) (xs : List X) → some_pair P (filter t xs) ≡ true → PairAt t P xs
  pair_at t P [] h = absurd (true≢false (sym h))
  pair_at t P (x ∷ xs) h = at (t x) refl h (pair_at t P xs)
    where
      with_first : t x ≡ true → (i : ℕ) × (i < length xs) × ((d : X) → (t (get_or xs i d) ≡ true) × (P x (get_or xs i d) ≡ true)) → PairAt t P (x ∷ xs)
      with_first e (i, low, is) = record {
        one = 0;
        other = suc i;
        apart = omega arith;
        within = omega (arith, low);
        first = λ d. e;
        second = λ d. (is d).0;
        does = λ d. (is d).1;
      }

      at : (b : Bool) → t x ≡ b → some_pair P (cond b (x ∷ filter t xs) (filter t xs)) ≡ true → (some_pair P (filter t xs) ≡ true → PairAt t P xs) → PairAt t P (x ∷ xs)
      at true e g rest = elim (either (list_any (P x) (filter t xs)) (some_pair P (filter t xs)) g) [
        | inl p ↦ with_first e (any_kept t (P x) xs p)
        | inr q ↦ later_pair t P x xs (rest q)
      ]
      at false e g rest = later_pair t P x xs (rest g)

  pub pair_from : (t : X → Bool) (P : X → X → Bool) (xs : List X) (i j : ℕ) (d : X) → i < j → j < length xs → t (get_or xs i d) ≡ true
      → t (get_or xs j d) ≡ true → P (get_or xs i d) (get_or xs j d) ≡ true → some_pair P (filter t xs) ≡ true
  pair_from t P [] i j d less low a b h = absurd (omega (arith, low))
  pair_from t P (x ∷ xs) i zero d less low a b h = absurd (omega (arith, less))
  pair_from t P (x ∷ xs) zero (suc j) d less low a b h =
      subst (λ c. some_pair P (cond c (x ∷ filter t xs) (filter t xs)) ≡ true) (sym a)
      (first_of (list_any (P x) (filter t xs)) (some_pair P (filter t xs)) (any_of_kept t (P x) xs j d (omega (arith, low)) b h))
  pair_from t P (x ∷ xs) (suc i) (suc j) d less low a b h = at (t x) (pair_from t P xs i j d (omega (arith, less)) (omega (arith, low)) a b h)
    where
      at : (c : Bool) → some_pair P (filter t xs) ≡ true → some_pair P (cond c (x ∷ filter t xs) (filter t xs)) ≡ true
      at true r = one_of (list_any (P x) (filter t xs)) (some_pair P (filter t xs)) r
      at false r = r

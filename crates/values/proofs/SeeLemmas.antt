-- What a frozen value shows, from its parts by place.
use Rattle.std.proofs.Common.{◌≡◌, ℕ, zero, suc, ◌+◌, ◌<◌, ◌≤◌, List, [], ◌∷◌, length, map, slice_get, Option, Some, None, refl, sym, ap, ◌∙◌, arith, min, Bool, true, false, cond, not, ⊎_elim, nat_lt}
use Rattle.std.proofs.lemmas.Bool.{cases_Bool}
use Rattle.std.proofs.lemmas.Bool.Decides.{nat_tests}
use borrow.Author.Tests.{ltb-true}
use Rattle.std.specs.List.{position, position_or_len}
use Rattle.std.specs.Map.{lookup}
use Rattle.leaves.specs.Leaves.{same_key}
use Rattle.keys.specs.declared.key.Key.TheVariants as key
use Rattle.keys.specs.contracts.key.KeyPartialEq.TheImpl.{eq-value}
use Rattle.values.specs.Tree.{trees, tree_list, pairs, pair_list, slots, slot_list}
use Rattle.values.specs.View.{FrozenTree}
use Rattle.values.specs.Shape.{value_of, entry_of, zip}
use Rattle.keys.specs.declared.key.Key.{Key}

pub tree_list-trees : (ts : List FrozenTree) → tree_list (trees ts) ≡ ts
tree_list-trees [] = refl
tree_list-trees (t ∷ ts) = ap (λ l. t ∷ l) (tree_list-trees ts)

pub slot_list-slots : (os : List (Option FrozenTree)) → slot_list (slots os) ≡ os
slot_list-slots [] = refl
slot_list-slots (None ∷ os) = ap (λ l. None ∷ l) (slot_list-slots os)
slot_list-slots (Some t ∷ os) = ap (λ l. Some t ∷ l) (slot_list-slots os)

pub zip-pairs : (ks : List Key) (ts : List FrozenTree) → zip ks ts ≡ map entry_of (pair_list (pairs ks ts))
zip-pairs [] ts = refl
zip-pairs (k ∷ ks) [] = refl
zip-pairs (k ∷ ks) (t ∷ ts) = ap (λ l. (k, value_of t) ∷ l) (zip-pairs ks ts)

pub length-zip : (ks : List Key) (ts : List FrozenTree) → length (zip ks ts) ≡ min (length ks) (length ts)
length-zip [] ts = omega arith
length-zip (k ∷ ks) [] = omega arith
length-zip (k ∷ ks) (t ∷ ts) = omega (arith, length-zip ks ts)

pub none_at : {A : Type 0} (xs : List A) (i : ℕ) → slice_get xs i ≡ None → length xs ≤ i
none_at [] i h = omega arith
none_at (x ∷ xs) zero h = absurd (cc)
none_at (x ∷ xs) (suc i) h = omega (arith, none_at xs i h)

pub zip-place : (ks : List Key) (ts : List FrozenTree) (i : ℕ) (k : Key) (t : FrozenTree) → slice_get ks i ≡ Some k → slice_get ts i ≡ Some t → slice_get (zip ks ts) i ≡ Some (k, value_of t)
zip-place [] ts i k t p q = absurd (cc)
zip-place (x ∷ ks) [] i k t p q = absurd (cc)
zip-place (x ∷ ks) (u ∷ ts) zero k t p q = let a : x ≡ k = cc in let b : u ≡ t = cc in λ j. Some (a j, value_of (b j))
zip-place (x ∷ ks) (u ∷ ts) (suc i) k t p q = zip-place ks ts i k t p q

-- the derived test of keys is theirs
pub agree : (x k : Key) → eq-value.it x k ≡ same_key x k
agree (key.Text s) (key.Text t) = refl
agree (key.Text s) (key.Number n) = refl
agree (key.Text s) (key.Truth b) = refl
agree (key.Number m) (key.Text t) = refl
agree (key.Number m) (key.Number n) = refl
agree (key.Number m) (key.Truth b) = refl
agree (key.Truth a) (key.Text t) = refl
agree (key.Truth a) (key.Number n) = refl
agree (key.Truth true) (key.Truth true) = refl
agree (key.Truth true) (key.Truth false) = refl
agree (key.Truth false) (key.Truth true) = refl
agree (key.Truth false) (key.Truth false) = refl

module _ (x : Key) where
  place_step : (k : Key) (ks : List Key) → position_or_len (eq-value.it x) (k ∷ ks) ≡ cond (eq-value.it x k) 0 (suc (position_or_len (eq-value.it x) ks))
  place_step k ks =
      elim (eq-value.it x k) as (λ b. cond (not b) (1 + position_or_len (eq-value.it x) ks) 0 ≡ cond b 0 (suc (position_or_len (eq-value.it x) ks)))
      [ true ↦ refl | false ↦ (let e : 1 + position_or_len (eq-value.it x) ks ≡ suc (position_or_len (eq-value.it x) ks) = omega arith in e) ]

  at_place : (b : Bool) (k : Key) → eq-value.it x k ≡ b → same_key x k ≡ b
  at_place b k h = sym (agree x k) ∙ h

  found_at : (ks : List Key) (ts : List FrozenTree) (i : ℕ) (u : FrozenTree) → position_or_len (eq-value.it x) ks ≡ i → i < length ks → slice_get ts i ≡ Some u
      → lookup (same_key x) (zip ks ts) ≡ Some (value_of u)
  found_at [] ts i u p l q = absurd (omega arith)
  found_at (k ∷ ks) [] i u p l q = absurd (cc)
  found_at (k ∷ ks) (t ∷ ts) zero u p l q =
      ⊎_elim (λ h. ap (λ b. cond b (Some (value_of t)) (lookup (same_key x) (zip ks ts))) (at_place true k h) ∙ (let e : t ≡ u = cc in λ j. Some (value_of (e j))))
      (λ h. let e = sym (place_step k ks ∙ ap (λ b. cond b 0 (suc (position_or_len (eq-value.it x) ks))) h) ∙ p in absurd (omega (arith, e)))
      (cases_Bool (eq-value.it x k))
  found_at (k ∷ ks) (t ∷ ts) (suc i) u p l q =
      ⊎_elim (λ h. let e = sym (place_step k ks ∙ ap (λ b. cond b 0 (suc (position_or_len (eq-value.it x) ks))) h) ∙ p in absurd (omega (arith, e)))
      (λ h. let e = sym (place_step k ks ∙ ap (λ b. cond b 0 (suc (position_or_len (eq-value.it x) ks))) h) ∙ p in
      ap (λ b. cond b (Some (value_of t)) (lookup (same_key x) (zip ks ts))) (at_place false k h) ∙ found_at ks ts i u (omega (arith, e)) (omega arith) q)
      (cases_Bool (eq-value.it x k))

  -- past the values, no key of the entries is it
  none_past : (ks : List Key) (ts : List FrozenTree) → length ts ≤ position_or_len (eq-value.it x) ks → lookup (same_key x) (zip ks ts) ≡ None
  none_past [] ts l = refl
  none_past (k ∷ ks) [] l = refl
  none_past (k ∷ ks) (t ∷ ts) l =
      ⊎_elim (λ h. let e = place_step k ks ∙ ap (λ b. cond b 0 (suc (position_or_len (eq-value.it x) ks))) h in absurd (omega (arith, e, l)))
      (λ h. let e = place_step k ks ∙ ap (λ b. cond b 0 (suc (position_or_len (eq-value.it x) ks))) h in
      ap (λ b. cond b (Some (value_of t)) (lookup (same_key x) (zip ks ts))) (at_place false k h) ∙ none_past ks ts (omega (arith, e, l)))
      (cases_Bool (eq-value.it x k))

  none_among : (ks : List Key) (ts : List FrozenTree) → length ks ≤ position_or_len (eq-value.it x) ks → lookup (same_key x) (zip ks ts) ≡ None
  none_among [] ts l = refl
  none_among (k ∷ ks) [] l = refl
  none_among (k ∷ ks) (t ∷ ts) l =
      ⊎_elim (λ h. let e = place_step k ks ∙ ap (λ b. cond b 0 (suc (position_or_len (eq-value.it x) ks))) h in absurd (omega (arith, e, l)))
      (λ h. let e = place_step k ks ∙ ap (λ b. cond b 0 (suc (position_or_len (eq-value.it x) ks))) h in
      ap (λ b. cond b (Some (value_of t)) (lookup (same_key x) (zip ks ts))) (at_place false k h) ∙ none_among ks ts (omega (arith, e, l)))
      (cases_Bool (eq-value.it x k))

  position_is : (ks : List Key) (i : ℕ) → position (eq-value.it x) ks ≡ Some i → (position_or_len (eq-value.it x) ks ≡ i) × (i < length ks)
  position_is ks i h =
      ⊎_elim (λ b. let e = sym (ap (λ c. cond c (Some (position_or_len (eq-value.it x) ks)) None) b) ∙ h in let n : position_or_len (eq-value.it x) ks ≡ i = cc in
      let l = ltb-true (position_or_len (eq-value.it x) ks) (length ks) b in (n, omega (arith, n, l)))
      (λ b. let e = sym (ap (λ c. cond c (Some (position_or_len (eq-value.it x) ks)) None) b) ∙ h in absurd (cc))
      (cases_Bool (nat_lt (position_or_len (eq-value.it x) ks) (length ks)))

  position_none : (ks : List Key) → position (eq-value.it x) ks ≡ None → length ks ≤ position_or_len (eq-value.it x) ks
  position_none ks h =
      ⊎_elim (λ b. let e = sym (ap (λ c. cond c (Some (position_or_len (eq-value.it x) ks)) None) b) ∙ h in absurd (cc))
      (λ b. grind (arith, nat_tests, b))
      (cases_Bool (nat_lt (position_or_len (eq-value.it x) ks) (length ks)))

  pub lookup-found : (ks : List Key) (ts : List FrozenTree) (i : ℕ) (u : FrozenTree) → position (eq-value.it x) ks ≡ Some i → slice_get ts i ≡ Some u → lookup (same_key x) (zip ks ts) ≡ Some (value_of u)
  lookup-found ks ts i u h q = let p = position_is ks i h in found_at ks ts i u p.0 p.1 q

  pub lookup-past : (ks : List Key) (ts : List FrozenTree) (i : ℕ) → position (eq-value.it x) ks ≡ Some i → length ts ≤ i → lookup (same_key x) (zip ks ts) ≡ None
  lookup-past ks ts i h l = let p = position_is ks i h in none_past ks ts (omega (arith, p.0, l))

  pub lookup-none : (ks : List Key) (ts : List FrozenTree) → position (eq-value.it x) ks ≡ None → lookup (same_key x) (zip ks ts) ≡ None
  lookup-none ks ts h = none_among ks ts (position_none ks h)

-- Lists of numbers: what they have, ranges, and what is chosen of a range.
use Rattle.std.proofs.Common.{◌≡◌, ℕ, zero, suc, ◌+◌, ◌<◌, ◌≤◌, ◌⊎◌, inl, inr, Bool, true, false, cond, not, ◌||◌, ◌&&◌, List, [], ◌∷◌, ◌++◌, length, filter, get_or, take, Contains, sym, ap, ◌∙◌, subst, arith, refl, true≢false, eqb-true, eq-eqb, ltb-true, lt-ltb, if◌then◌else◌, add-one, length-take, get_or-take}
use Rattle.std.specs.Prelude.{nat_eq, nat_lt}
use Rattle.std.specs.List.{list_any, IsDistinct, AllByRecursion, range_with_len}
use Rattle.std.specs.Cmp.{nat_eq_equiv}
use Rattle.std.proofs.lemmas.List.{append-nil, get_or_past}
use Rattle.std.proofs.lemmas.List.FromFn.{length-range_with_len}
use Rattle.std.proofs.lemmas.List.Folds.{list_any_more, list_any-append}
use Rattle.std.proofs.lemmas.Map.Keys.{IsDistinct-cons, apart_from_distinct}
use Rattle.std.proofs.lemmas.Map.Made.{is_member-filter}
use Rattle.std.proofs.lemmas.Map.Views.{Contains-from_any, list_any-from_Contains}
use Rattle.edges.specs.Rows.{row, has}
use Rattle.edges.proofs.Tests.{cases_of, not_both, isnt, either, both_and, or_left, or_right, or_none, none_any}

-- ---- what a list has

pub has-head : (x : ℕ) (xs : List ℕ) → has (x ∷ xs) x ≡ true
has-head x xs = rw (eq-eqb x x refl) refl

pub has-later : (y : ℕ) (xs : List ℕ) (x : ℕ) → has xs x ≡ true → has (y ∷ xs) x ≡ true
has-later y xs x h = or_right (nat_eq x y) (has xs x) h

pub from_has : (xs : List ℕ) (x : ℕ) → has xs x ≡ true → Contains xs x
from_has xs x h = Contains-from_any eqb-true x xs h

pub to_has : (xs : List ℕ) (x : ℕ) → Contains xs x → has xs x ≡ true
to_has xs x c = list_any-from_Contains nat_eq_equiv x xs c

pub ne_eqb : (m n : ℕ) → (m ≡ n → ⊥) → nat_eq m n ≡ false
ne_eqb m n apart = isnt (nat_eq m n) (λ same. apart (eqb-true m n same))

pub apart_of : (m n : ℕ) → nat_eq m n ≡ false → m ≡ n → ⊥
apart_of m n other e = not_both (nat_eq m n) (eq-eqb m n e) other

pub sides : (m n : ℕ) → (m ≡ n → ⊥) → (m < n) ⊎ (n < m)
sides m n apart = elim (cases_of (nat_lt m n)) [
  | inl below ↦ inl (ltb-true m n below)
  | inr past ↦ let not : m < n → ⊥ = λ l. not_both (nat_lt m n) (lt-ltb m n l) past in inr (omega (arith, not, apart))
]

pub below_or_past : (m n : ℕ) → (m < n) ⊎ (n ≤ m)
below_or_past m n = elim (cases_of (nat_lt m n)) [
  | inl below ↦ inl (ltb-true m n below)
  | inr past ↦ let not : m < n → ⊥ = λ l. not_both (nat_lt m n) (lt-ltb m n l) past in inr (omega (arith, not))
]

pub has_at : (xs : List ℕ) (d : ℕ) → has xs d ≡ true → (k : ℕ) × (k < length xs) × (get_or xs k 0 ≡ d)
has_at [] d h = absurd (true≢false (sym h))
has_at (x ∷ xs) d h = elim (cases_of (nat_eq d x)) [
  | inl here ↦ (0, omega arith, sym (eqb-true d x here))
  | inr other ↦
      let later : has xs d ≡ true = subst (λ b. (b || has xs d) ≡ true) other h in
      let k = has_at xs d later in
      (suc k.0, omega (arith, k.1), k.2)
]

pub has-get_or : (xs : List ℕ) (i : ℕ) → i < length xs → has xs (get_or xs i 0) ≡ true
has-get_or [] i low = absurd (omega (arith, low))
has-get_or (x ∷ xs) zero low = has-head x xs
has-get_or (x ∷ xs) (suc i) low = has-later x xs (get_or xs i 0) (has-get_or xs i (omega (arith, low)))

pub has-append : (xs ys : List ℕ) (d : ℕ) → has (xs ++ ys) d ≡ (has xs d || has ys d)
has-append xs ys d = list_any-append (nat_eq d) xs ys

pub has-one : (y d : ℕ) → has (y ∷ []) d ≡ nat_eq d y
has-one y d = or_none (nat_eq d y)

pub has_more : (xs : List ℕ) (i x : ℕ) → i < length xs → has (take (i + 1) xs) x ≡ (has (take i xs) x || nat_eq x (get_or xs i 0))
has_more xs i x within = list_any_more (nat_eq x) xs i 0 within

pub has_taken : (m : ℕ) (xs : List ℕ) (d : ℕ) → has (take m xs) d ≡ true → has xs d ≡ true
has_taken zero xs d h = absurd (true≢false (sym h))
has_taken (suc m) [] d h = absurd (true≢false (sym h))
has_taken (suc m) (x ∷ xs) d h = elim (either (nat_eq d x) (has (take m xs) d) h) [
  | inl here ↦ or_left (nat_eq d x) (has xs d) here
  | inr later ↦ or_right (nat_eq d x) (has xs d) (has_taken m xs d later)
]

-- what stands once is not among what stands before it
pub new_at : (xs : List ℕ) (i : ℕ) → IsDistinct nat_eq xs → i < length xs → has (take i xs) (get_or xs i 0) ≡ false
new_at xs i distinct within = isnt (has (take i xs) (get_or xs i 0)) (λ old.
    let k = has_at (take i xs) (get_or xs i 0) old in
    let low : k.0 < i = omega (arith, k.1, length-take i xs) in
    let there : get_or xs k.0 0 ≡ get_or xs i 0 = sym (get_or-take i xs k.0 0 low) ∙ k.2 in
    not_both (nat_eq (get_or xs k.0 0) (get_or xs i 0)) (eq-eqb (get_or xs k.0 0) (get_or xs i 0) there) (apart_from_distinct nat_eq xs k.0 i 0 distinct low within))

-- ---- ranges

pub has_range : (n a q : ℕ) → a ≤ q → q < a + n → has (range_with_len a n) q ≡ true
has_range zero a q low high = absurd (omega (arith, low, high))
has_range (suc n) a q low high = elim (cases_of (nat_eq q a)) [
  | inl same ↦ or_left (nat_eq q a) (has (range_with_len (a + 1) n) q) same
  | inr other ↦
      let apart = apart_of q a other in
      or_right (nat_eq q a) (has (range_with_len (a + 1) n) q) (has_range n (a + 1) q (omega (arith, low, apart)) (omega (arith, high)))
]

pub has_range_below : (n a q : ℕ) → has (range_with_len a n) q ≡ true → (a ≤ q) × (q < a + n)
has_range_below zero a q h = absurd (true≢false (sym h))
has_range_below (suc n) a q h = elim (either (nat_eq q a) (has (range_with_len (a + 1) n) q) h) [
  | inl here ↦ let e = eqb-true q a here in (omega (arith, e), omega (arith, e))
  | inr later ↦ let l = has_range_below n (a + 1) q later in (omega (arith, l.0), omega (arith, l.1))
]

-- only nodes have dependencies
pub finite : (deps : List (List ℕ)) (t d : ℕ) → Contains (row deps t) d → list_any (nat_eq t) (range_with_len 0 (length deps)) ≡ true
finite deps t d there = elim (cases_of (nat_lt t (length deps))) [
  | inl low ↦ has_range (length deps) 0 t (omega arith) (omega (arith, ltb-true t (length deps) low))
  | inr high ↦
      let past : length deps ≤ t = let no_less : t < length deps → ⊥ = λ l. not_both (nat_lt t (length deps)) (lt-ltb t (length deps) l) high in omega (arith, no_less) in
      let none : Contains [] d = subst (λ ds. Contains ds d) (get_or_past deps t [] past) there in
      absurd (omega (arith, none.1))
]

pub few : (deps : List (List ℕ)) → length (range_with_len 0 (length deps)) ≤ length deps
few deps = let e = length-range_with_len 0 (length deps) in omega (arith, e)

-- ---- what is chosen of a range

push_cond : (b : Bool) (a : ℕ) (xs ys zs : List ℕ) → xs ≡ ys ++ zs → cond b (a ∷ xs) xs ≡ cond b (a ∷ ys) ys ++ zs
push_cond true a xs ys zs e = ap (λ l. a ∷ l) e
push_cond false a xs ys zs e = e

filter_range_suc : (p : ℕ → Bool) (a n m : ℕ) → a + n ≡ m → filter p (range_with_len a (suc n)) ≡ filter p (range_with_len a n) ++ (if p m then m ∷ [] else [])
filter_range_suc p a zero m e =
    let same : a ≡ m = omega (arith, e) in
    subst (λ x. filter p (range_with_len a 1) ≡ (if p x then x ∷ [] else [])) same refl
filter_range_suc p a (suc n) m e =
    push_cond (p a) a (filter p (range_with_len (a + 1) (suc n))) (filter p (range_with_len (a + 1) n)) (if p m then m ∷ [] else [])
    (filter_range_suc p (a + 1) n m (omega (arith, e)))

pub filter_range_more : (p : ℕ → Bool) (n : ℕ) → filter p (range_with_len 0 (n + 1)) ≡ filter p (range_with_len 0 n) ++ (if p n then n ∷ [] else [])
filter_range_more p n = ap (λ k. filter p (range_with_len 0 k)) (add-one n) ∙ filter_range_suc p 0 n n (omega arith)

pub chosen : (p : ℕ → Bool) (n : ℕ) → p n ≡ true → filter p (range_with_len 0 (n + 1)) ≡ filter p (range_with_len 0 n) ++ n ∷ []
chosen p n is = filter_range_more p n ∙ ap (λ b. filter p (range_with_len 0 n) ++ (if b then n ∷ [] else [])) is

pub unchosen : (p : ℕ → Bool) (n : ℕ) → p n ≡ false → filter p (range_with_len 0 (n + 1)) ≡ filter p (range_with_len 0 n)
unchosen p n not = filter_range_more p n ∙ ap (λ b. filter p (range_with_len 0 n) ++ (if b then n ∷ [] else [])) not ∙ append-nil (filter p (range_with_len 0 n))

pub has-filter : (p : ℕ → Bool) (xs : List ℕ) (x : ℕ) → has (filter p xs) x ≡ (has xs x && p x)
has-filter p xs x = is_member-filter nat_eq_equiv p x (λ y e. ap p (eqb-true x y e)) xs

distinct_cond : (b : Bool) (a : ℕ) (xs : List ℕ) → AllByRecursion (λ y. nat_eq a y ≡ false) xs → IsDistinct nat_eq xs → IsDistinct nat_eq (cond b (a ∷ xs) xs)
distinct_cond true a xs all d = IsDistinct-cons nat_eq a xs all d
distinct_cond false a xs all d = d

pub distinct_range : (p : ℕ → Bool) (a n : ℕ) → IsDistinct nat_eq (filter p (range_with_len a n))
unfolding IsDistinct
distinct_range p a zero = tt
distinct_range p a (suc n) =
    let rest = filter p (range_with_len (a + 1) n) in
    let none : has rest a ≡ false = isnt (has rest a) (λ h.
    let both : has (range_with_len (a + 1) n) a ≡ true = (both_and (has (range_with_len (a + 1) n) a) (p a) (sym (has-filter p (range_with_len (a + 1) n) a) ∙ h)).0 in
    let above = has_range_below n (a + 1) a both in
    absurd (omega (arith, above.0))) in
    distinct_cond (p a) a rest (none_any (nat_eq a) rest none) (distinct_range p (a + 1) n)

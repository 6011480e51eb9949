-- Counting dependencies down: what the counts and the order of the nodes say at each step.
use Rattle.std.proofs.Common.{◌≡◌, ℕ, suc, ◌-◌, ◌<◌, ◌⊎◌, inl, inr, Bool, true, false, not, cond, ◌||◌, List, [], ◌∷◌, ◌++◌, length, get_or, take, set, sym, ap, ◌∙◌, subst, arith, refl, true≢false, eqb-true, eq-eqb, get_or-set_same, get_or-set_other, length-append}
use Rattle.std.proofs.lemmas.List.{get_or_append_left, get_or_push, take-append-le, take_all, length-set}
use Rattle.std.proofs.lemmas.List.Folds.{list_any-append}
use Rattle.std.proofs.lemmas.Map.Keys.{IsDistinct-push}
use Rattle.std.specs.Cmp.{nat_eq_equiv}
use Rattle.std.specs.Prelude.{nat_eq}
use Rattle.std.specs.List.{IsDistinct, AllByRecursion}
use Rattle.edges.specs.Rows.{row, has, IsGraph}
use Rattle.edges.specs.Counting.{Counting, count}
use Rattle.edges.proofs.Tests.{cases_of, not_both, either, or_right, not-true}
use Rattle.edges.proofs.Lists.{has-head, has-later}

-- ---- counts

pub count-same : (p q : ℕ → Bool) (ds : List ℕ) → ((d : ℕ) → has ds d ≡ true → p d ≡ q d) → count p ds ≡ count q ds
count-same p q [] same = refl
count-same p q (x ∷ xs) same =
    let here : p x ≡ q x = same x (has-head x xs) in
    let later = count-same p q xs (λ d h. same d (has-later x xs d h)) in
    rw here (rw later refl)

pub count-none : (p : ℕ → Bool) (ds : List ℕ) (d : ℕ) → count p ds ≡ 0 → has ds d ≡ true → p d ≡ false
count-none p [] d none h = absurd (true≢false (sym h))
count-none p (x ∷ xs) d none h = elim (cases_of (p x)) [
  | inl is ↦ let more : suc (count p xs) ≡ 0 = rw is at none in absurd (omega (arith, more))
  | inr isnt ↦
      let rest : count p xs ≡ 0 = rw isnt at none in
      elim (either (nat_eq d x) (has xs d) h) [
        | inl e ↦ subst (λ y. p y ≡ false) (sym (eqb-true d x e)) isnt
        | inr l ↦ count-none p xs d rest l
      ]
]

pub count-some : (p : ℕ → Bool) (ds : List ℕ) → 0 < count p ds → (d : ℕ) × (has ds d ≡ true) × (p d ≡ true)
count-some p [] some = absurd (omega (arith, some))
count-some p (x ∷ xs) some = elim (cases_of (p x)) [
  | inl is ↦ (x, has-head x xs, is)
  | inr isnt ↦
      let rest : 0 < count p xs = rw isnt at some in
      let later = count-some p xs rest in
      (later.0, has-later x xs later.0 later.1, later.2)
]

pub isnt_in : (x : ℕ) (xs : List ℕ) (d : ℕ) → AllByRecursion (λ y. nat_eq x y ≡ false) xs → has xs d ≡ true → d ≡ x → ⊥
isnt_in x [] d all h e = true≢false (sym h)
isnt_in x (y ∷ ys) d all h e = elim (either (nat_eq d y) (has ys d) h) [
  | inl here ↦ not_both (nat_eq x y) (eq-eqb x y (sym e ∙ eqb-true d y here)) all.0
  | inr later ↦ isnt_in x ys d all.1 later e
]

cond_suc : (b : Bool) (m k : ℕ) → m ≡ suc k → cond b (suc m) m ≡ suc (cond b (suc k) k)
cond_suc true m k e = ap suc e
cond_suc false m k e = e

-- one that counted counts no more
pub count-less : (p q : ℕ → Bool) (n : ℕ) (ds : List ℕ) → IsDistinct nat_eq ds → has ds n ≡ true → p n ≡ true → q n ≡ false → ((d : ℕ) → (d ≡ n → ⊥) → p d ≡ q d) → count p ds ≡ suc (count q ds)
unfolding IsDistinct
count-less p q n [] distinct h was isnt same = absurd (true≢false (sym h))
count-less p q n (x ∷ xs) distinct h was isnt same = elim (cases_of (nat_eq n x)) [
  | inl here ↦
      let e : n ≡ x = eqb-true n x here in
      let px : p x ≡ true = subst (λ y. p y ≡ true) e was in
      let qx : q x ≡ false = subst (λ y. q y ≡ false) e isnt in
      let rest : count p xs ≡ count q xs = count-same p q xs (λ d hd. same d (λ dn. isnt_in x xs d distinct.0 hd (dn ∙ e))) in
      rw px (rw qx (omega (arith, rest)))
  | inr other ↦
      let apart : x ≡ n → ⊥ = λ e. not_both (nat_eq n x) (eq-eqb n x (sym e)) other in
      let px : p x ≡ q x = same x apart in
      let inn : has xs n ≡ true = rw other at h in
      let rest : count p xs ≡ suc (count q xs) = count-less p q n xs distinct.1 inn was isnt same in
      rw px (cond_suc (q x) (count p xs) (count q xs) rest)
]

-- ---- the countdown

pub has-push : (xs : List ℕ) (y d : ℕ) → has (xs ++ y ∷ []) d ≡ (has xs d || (nat_eq d y || false))
has-push xs y d = list_any-append (nat_eq d) xs (y ∷ [])

pub has-push_left : (xs : List ℕ) (y d : ℕ) → has xs d ≡ true → has (xs ++ y ∷ []) d ≡ true
has-push_left xs y d h = has-push xs y d ∙ rw h refl

pub has-push_last : (xs : List ℕ) (y d : ℕ) → d ≡ y → has (xs ++ y ∷ []) d ≡ true
has-push_last xs y d e = has-push xs y d ∙ or_right (has xs d) _ (rw (eq-eqb d y e) refl)

pub has-push_cases : (xs : List ℕ) (y d : ℕ) → has (xs ++ y ∷ []) d ≡ true → (has xs d ≡ true) ⊎ (d ≡ y)
has-push_cases xs y d h = elim (either (has xs d) (nat_eq d y || false) (sym (has-push xs y d) ∙ h)) [
  | inl old ↦ inl old
  | inr new ↦ elim (either (nat_eq d y) false new) [ inl e ↦ inr (eqb-true d y e) | inr never ↦ absurd (true≢false (sym never)) ]
]

take_all_at : (i : ℕ) (xs : List ℕ) → length xs ≡ i → take i xs ≡ xs
take_all_at i xs e = take_all i xs (omega (arith, e))

module _ (plan : List (List ℕ)) (is_graph : IsGraph plan) (taken taken' : ℕ → ℕ → Bool) (order left : List ℕ) (was : Counting plan taken order left)
    (n u : ℕ) (node : u < length plan) (edge : has (row plan u) n ≡ true) (gone : has order n ≡ true) (before : taken n u ≡ false) (now : taken' n u ≡ true)
    (others : (d v : ℕ) → (d ≡ n → v ≡ u → ⊥) → taken d v ≡ taken' d v) where
  fewer : get_or left u 0 ≡ suc (count (λ d. not (taken' d u)) (row plan u))
  fewer = was.counts u node
      ∙ count-less (λ d. not (taken d u)) (λ d. not (taken' d u)) n (row plan u) (is_graph.distinct u) edge (ap not before) (ap not now) (λ d apart. ap not (others d u (λ e same. apart e)))

  pub lower_some : 0 < get_or left u 0
  lower_some = omega (arith, fewer)

  left' : List ℕ
  left' = set left u (get_or left u 0 - 1)

  at_user : get_or left' u 0 ≡ count (λ d. not (taken' d u)) (row plan u)
  unfolding left'
  at_user =
      let low : u < length left = omega (arith, node, was.len) in
      get_or-set_same left u (get_or left u 0 - 1) 0 low ∙ omega (arith, fewer)

  elsewhere : (v : ℕ) → (v ≡ u → ⊥) → get_or left' v 0 ≡ get_or left v 0
  unfolding left'
  elsewhere v apart = get_or-set_other left u v (get_or left u 0 - 1) 0 apart

  counts' : (v : ℕ) → v < length plan → get_or left' v 0 ≡ count (λ d. not (taken' d v)) (row plan v)
  counts' v low = elim (cases_of (nat_eq v u)) [
    | inl same ↦ let e : v ≡ u = eqb-true v u same in subst (λ x. get_or left' x 0 ≡ count (λ d. not (taken' d x)) (row plan x)) (sym e) at_user
    | inr other ↦
        let apart : v ≡ u → ⊥ = λ e. not_both (nat_eq v u) (eq-eqb v u e) other in
        elsewhere v apart ∙ was.counts v low ∙ count-same (λ d. not (taken d v)) (λ d. not (taken' d v)) (row plan v) (λ d h. ap not (others d v (λ e f. apart f)))
  ]

  taken_before : (d v : ℕ) → taken' d v ≡ true → has order d ≡ true
  taken_before d v is = elim (cases_of (nat_eq d n)) [
    | inl same ↦ let e : d ≡ n = eqb-true d n same in subst (λ x. has order x ≡ true) (sym e) gone
    | inr other ↦ was.taken_in d v (others d v (λ e f. not_both (nat_eq d n) (eq-eqb d n e) other) ∙ is)
  ]

  user_new : has order u ≡ false
  user_new = elim (cases_of (has order u)) [ inl old ↦ absurd (omega (arith, fewer, (was.in_zero u old).1)) | inr isnt ↦ isnt ]

  not_user : (v : ℕ) → has order v ≡ true → v ≡ u → ⊥
  not_user v h e = not_both (has order u) (subst (λ x. has order x ≡ true) e h) user_new

  -- the last dependency of u is done
  pub lowered_last : get_or left u 0 ≡ 1 → Counting plan taken' (order ++ u ∷ []) (set left u (get_or left u 0 - 1))
  unfolding left'
  lowered_last one = record {
    len = length-set left u _ ∙ was.len;
    counts = counts';
    zero_in = λ v low none. elim (cases_of (nat_eq v u)) [
      | inl same ↦ has-push_last order u v (eqb-true v u same)
      | inr other ↦ has-push_left order u v (was.zero_in v low (sym (elsewhere v (λ e. not_both (nat_eq v u) (eq-eqb v u e) other)) ∙ none))
    ];
    in_zero = λ v h. elim (has-push_cases order u v h) [
      | inl old ↦ let z = was.in_zero v old in (z.0, elsewhere v (not_user v old) ∙ z.1)
      | inr e ↦
          let here : get_or left' u 0 ≡ 0 = let a = at_user in omega (arith, a, fewer, one) in
          subst (λ x. (x < length plan) × (get_or left' x 0 ≡ 0)) (sym e) (node, here)
    ];
    distinct = IsDistinct-push nat_eq_equiv order u was.distinct user_new;
    after = λ i low d h. elim (cases_of (nat_eq i (length order))) [
      | inl last ↦
          let e : length order ≡ i = sym (eqb-true i (length order) last) in
          let dep : has (row plan u) d ≡ true = subst (λ x. has (row plan x) d ≡ true) (get_or_push order u 0 i e) h in
          let none : count (λ d. not (taken' d u)) (row plan u) ≡ 0 = omega (arith, fewer, one) in
          let done : has order d ≡ true = taken_before d u (not-true (taken' d u) (count-none (λ d. not (taken' d u)) (row plan u) d none dep)) in
          let cut : take i (order ++ u ∷ []) ≡ order = take-append-le i order (u ∷ []) (omega (arith, e)) ∙ take_all_at i order e in
          subst (λ xs. has xs d ≡ true) (sym cut) done
      | inr other ↦
          let low' : i < length order = let ne : i ≡ length order → ⊥ = λ e. not_both (nat_eq i (length order)) (eq-eqb i (length order) e) other in omega (arith, low, ne, length-append order (u ∷ [])) in
          let dep : has (row plan (get_or order i 0)) d ≡ true = subst (λ x. has (row plan x) d ≡ true) (get_or_append_left order (u ∷ []) 0 i low') h in
          let cut : take i (order ++ u ∷ []) ≡ take i order = take-append-le i order (u ∷ []) (omega (arith, low')) in
          subst (λ xs. has xs d ≡ true) (sym cut) (was.after i low' d dep)
    ];
    taken_in = λ d v is. has-push_left order u d (taken_before d v is);
  }

  -- others are left
  pub lowered_more : (get_or left u 0 ≡ 1 → ⊥) → Counting plan taken' order (set left u (get_or left u 0 - 1))
  unfolding left'
  lowered_more many = record {
    len = length-set left u _ ∙ was.len;
    counts = counts';
    zero_in = λ v low none. elim (cases_of (nat_eq v u)) [
      | inl same ↦
          let e : v ≡ u = eqb-true v u same in
          let here : get_or left' u 0 ≡ 0 = subst (λ x. get_or left' x 0 ≡ 0) e none in
          absurd (let a = at_user in omega (arith, a, fewer, here, many))
      | inr other ↦ was.zero_in v low (sym (elsewhere v (λ e. not_both (nat_eq v u) (eq-eqb v u e) other)) ∙ none)
    ];
    in_zero = λ v h. let z = was.in_zero v h in (z.0, elsewhere v (not_user v h) ∙ z.1);
    distinct = was.distinct;
    after = was.after;
    taken_in = taken_before;
  }

-- the same counts, told of other edges counted that agree with these
pub retaken : (plan : List (List ℕ)) (taken taken' : ℕ → ℕ → Bool) (order left : List ℕ) → Counting plan taken order left
    → ((d v : ℕ) → v < length plan → has (row plan v) d ≡ true → taken d v ≡ taken' d v) → ((d v : ℕ) → taken' d v ≡ true → has order d ≡ true) → Counting plan taken' order left
retaken plan taken taken' order left was same within = record {
  len = was.len;
  counts = λ v low. was.counts v low ∙ count-same (λ d. not (taken d v)) (λ d. not (taken' d v)) (row plan v) (λ d h. ap not (same d v low h));
  zero_in = was.zero_in;
  in_zero = was.in_zero;
  distinct = was.distinct;
  after = was.after;
  taken_in = within;
}

-- The nodes in the order of the countdown, and behind them the rest.
use Rattle.std.proofs.Common.{◌≡◌, ℕ, ◌-◌, ◌<◌, ◌≤◌, inl, inr, true, false, not, List, [], ◌∷◌, ◌++◌, length, get_or, sym, ap, ◌∙◌, subst, arith, refl, true≢false, eqb-true, eq-eqb, length-append}
use Rattle.std.specs.Prelude.{nat_eq}
use Rattle.std.specs.List.{IsDistinct, AllByRecursion, range_with_len}
use Rattle.std.proofs.lemmas.List.{get_or_append_left, get_or-append_right, take-append-le}
use Rattle.std.proofs.lemmas.Map.Keys.{IsDistinct-cons}
use Rattle.std.proofs.lemmas.Map.Steps.{length-le_from_distinct_below, le-length_from_below}
use Rattle.edges.specs.Walks.{Cyclic}
use Rattle.edges.specs.Rows.{row, has, IsGraph}
use Rattle.edges.specs.Counting.{Counting}
use Rattle.edges.specs.Orders.{rest, IsOrder}
use Rattle.edges.proofs.Tests.{cases_of, not_both, isnt, either, or_left, or_right, both_and, and_both, not-false, none_any}
use Rattle.edges.proofs.Lists.{has-append, has-filter, has-head, has-later, has-get_or, has_range, has_range_below, distinct_range}
use Rattle.edges.proofs.Ends.{left_decides}

-- two lists that share nothing
pub distinct-append : (xs ys : List ℕ) → IsDistinct nat_eq xs → IsDistinct nat_eq ys → ((d : ℕ) → has xs d ≡ true → has ys d ≡ false) → IsDistinct nat_eq (xs ++ ys)
unfolding IsDistinct
distinct-append [] ys dx dy apart = dy
distinct-append (x ∷ xs) ys dx dy apart =
    IsDistinct-cons nat_eq x (xs ++ ys)
    (none_any (nat_eq x) (xs ++ ys) (isnt (has (xs ++ ys) x) (λ h. elim (either (has xs x) (has ys x) (sym (has-append xs ys x) ∙ h)) [
      | inl later ↦ twice x xs dx.0 later
      | inr there ↦ not_both (has ys x) there (apart x (has-head x xs))
    ])))
    (distinct-append xs ys dx.1 dy (λ d h. apart d (has-later x xs d h)))
  where
    twice : (x : ℕ) (xs : List ℕ) → AllByRecursion (λ y. nat_eq x y ≡ false) xs → has xs x ≡ true → ⊥
    twice x [] all h = true≢false (sym h)
    twice x (y ∷ ys) all h = elim (either (nat_eq x y) (has ys x) h) [
      | inl here ↦ not_both (nat_eq x y) here all.0
      | inr later ↦ twice x ys all.1 later
    ]

module _ (deps : List (List ℕ)) (is_graph : IsGraph deps) (order left : List ℕ) (ended : Counting deps (λ d v. has order d) order left) where
  in_rest : (v : ℕ) → has (rest left) v ≡ true → (v < length deps) × (not (nat_eq (get_or left v 0) 0) ≡ true)
  in_rest v h =
      let two = both_and (has (range_with_len 0 (length left)) v) (not (nat_eq (get_or left v 0) 0)) (sym (has-filter (λ n. not (nat_eq (get_or left n 0) 0)) (range_with_len 0 (length left)) v) ∙ h) in
      let low = has_range_below (length left) 0 v two.0 in
      (omega (arith, low.1, ended.len), two.1)

  to_rest : (v : ℕ) → v < length deps → nat_eq (get_or left v 0) 0 ≡ false → has (rest left) v ≡ true
  to_rest v low some =
      has-filter (λ n. not (nat_eq (get_or left n 0) 0)) (range_with_len 0 (length left)) v
      ∙ and_both (has (range_with_len 0 (length left)) v) (not (nat_eq (get_or left v 0) 0)) (has_range (length left) 0 v (omega arith) (omega (arith, low, ended.len))) (ap not some)

  apart : (v : ℕ) → has order v ≡ true → has (rest left) v ≡ false
  apart v h = isnt (has (rest left) v) (λ r. not_both (nat_eq (get_or left v 0) 0) (eq-eqb (get_or left v 0) 0 (ended.in_zero v h).1) (not-false (nat_eq (get_or left v 0) 0) (in_rest v r).1))

  once : IsDistinct nat_eq (order ++ rest left)
  once = distinct-append order (rest left) ended.distinct (distinct_range (λ n. not (nat_eq (get_or left n 0) 0)) 0 (length left)) apart

  all : (v : ℕ) → v < length deps → has (order ++ rest left) v ≡ true
  all v low = has-append order (rest left) v ∙ elim (cases_of (nat_eq (get_or left v 0) 0)) [
    | inl none ↦ or_left (has order v) (has (rest left) v) (ended.zero_in v low (eqb-true (get_or left v 0) 0 none))
    | inr some ↦ or_right (has order v) (has (rest left) v) (to_rest v low some)
  ]

  inside : (v : ℕ) → has (order ++ rest left) v ≡ true → v < length deps
  inside v h = elim (either (has order v) (has (rest left) v) (sym (has-append order (rest left) v) ∙ h)) [
    | inl old ↦ (ended.in_zero v old).0
    | inr new ↦ (in_rest v new).0
  ]

  listed : length (order ++ rest left) ≡ length deps
  listed =
      let most = length-le_from_distinct_below (order ++ rest left) (length deps) once inside in
      let least = le-length_from_below (order ++ rest left) (length deps) all in
      omega (arith, most, least)

  first : length order ≤ length deps
  first = let l = listed in let a = length-append order (rest left) in omega (arith, l, a)

  pub whole_order : IsOrder deps (order ++ rest left) (length order)
  whole_order = record {
    once = once;
    listed = listed;
    nodes = λ k low. inside (get_or (order ++ rest left) k 0) (has-get_or (order ++ rest left) k (omega (arith, low, listed)));
    all = all;
    within = first;
    after = λ k d low h.
        let dep : has (row deps (get_or order k 0)) d ≡ true = subst (λ x. has (row deps x) d ≡ true) (get_or_append_left order (rest left) 0 k low) h in
        subst (λ xs. has xs d ≡ true) (sym (take-append-le k order (rest left) (omega (arith, low)))) (ended.after k low d dep);
    behind = λ k past low.
        let there : get_or (order ++ rest left) k 0 ≡ get_or (rest left) (k - length order) 0 = get_or-append_right order (rest left) (length order) k 0 refl past in
        let short : k - length order < length (rest left) = let l = listed in let a = length-append order (rest left) in omega (arith, low, past, l, a) in
        let is = in_rest (get_or (rest left) (k - length order) 0) (has-get_or (rest left) (k - length order) short) in
        subst (λ v. Cyclic (row deps) v) (sym there) ((left_decides deps is_graph order left ended (get_or (rest left) (k - length order) 0) is.0).0 is.1);
  }

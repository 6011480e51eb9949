-- The same graph under the numbers of an order: what its rows are, that cycles stay, and that each node comes after its dependencies.
use Rattle.std.proofs.Common.{◌≡◌, ℕ, zero, suc, ◌<◌, ◌≤◌, inl, inr, Bool, true, false, List, [], ◌∷◌, length, map, get_or, take, sym, ap, ◌∙◌, subst, arith, refl, true≢false, eqb-true, eq-eqb, get_or-take, length-take}
use Rattle.std.specs.Prelude.{nat_eq}
use Rattle.std.specs.List.{list_any, IsDistinct, AllByRecursion, range_with_len}
use Rattle.std.specs.Cmp.{unsigned_Decides}
use Rattle.std.proofs.lemmas.List.{get_or-map, length-map, get_or_past}
use Rattle.std.proofs.lemmas.Map.Keys.{IsDistinct-cons}
use Rattle.edges.specs.Walks.{Cyclic, goes_on}
use Rattle.edges.specs.Rows.{row, has, IsGraph, IsOrdered, IsRenumbered}
use Rattle.edges.specs.Orders.{IsOrder, replaced}
use Rattle.edges.proofs.Tests.{not_both, isnt, either, none_any}
use Rattle.edges.proofs.Lists.{has_at, has-head, has-later, below_or_past, finite, few}
use Rattle.edges.proofs.Cycles.{cyclic_endless, endless_cyclic, ends_apart}
use Rattle.edges.proofs.Ends.{none_false}

-- ---- lists that are mapped

mapped_has : (f : ℕ → ℕ) (xs : List ℕ) (d : ℕ) → has (map f xs) d ≡ true → (x : ℕ) × (has xs x ≡ true) × (d ≡ f x)
mapped_has f [] d h = absurd (true≢false (sym h))
mapped_has f (x ∷ xs) d h = elim (either (nat_eq d (f x)) (has (map f xs) d) h) [
  | inl here ↦ (x, has-head x xs, eqb-true d (f x) here)
  | inr there ↦ let later = mapped_has f xs d there in (later.0, has-later x xs later.0 later.1, later.2)
]

distinct_mapped : (f : ℕ → ℕ) (xs : List ℕ) → IsDistinct nat_eq xs → ((x y : ℕ) → has xs x ≡ true → has xs y ≡ true → f x ≡ f y → x ≡ y) → IsDistinct nat_eq (map f xs)
unfolding IsDistinct
distinct_mapped f [] distinct apart = tt
distinct_mapped f (x ∷ xs) distinct apart =
    IsDistinct-cons nat_eq (f x) (map f xs)
    (none_any (nat_eq (f x)) (map f xs) (isnt (has (map f xs) (f x)) (λ h.
    let m = mapped_has f xs (f x) h in
    let same = apart x m.0 (has-head x xs) (has-later x xs m.0 m.1) m.2 in
    twice x xs m.0 distinct.0 m.1 same)))
    (distinct_mapped f xs distinct.1 (λ a b i j. apart a b (has-later x xs a i) (has-later x xs b j)))
  where
    twice : (x : ℕ) (xs : List ℕ) (d : ℕ) → AllByRecursion (λ y. nat_eq x y ≡ false) xs → has xs d ≡ true → x ≡ d → ⊥
    twice x [] d all h e = true≢false (sym h)
    twice x (y ∷ ys) d all h e = elim (either (nat_eq d y) (has ys d) h) [
      | inl here ↦ not_both (nat_eq x y) (eq-eqb x y (e ∙ eqb-true d y here)) all.0
      | inr later ↦ twice x ys d all.1 later e
    ]

back : (f g : ℕ → ℕ) (xs : List ℕ) → ((x : ℕ) → has xs x ≡ true → g (f x) ≡ x) → map g (map f xs) ≡ xs
back f g [] each = refl
back f g (x ∷ xs) each =
    let here : g (f x) ≡ x = each x (has-head x xs) in
    let later : map g (map f xs) ≡ xs = back f g xs (λ y h. each y (has-later x xs y h)) in
    cc

any_mapped : {X : Type 0} (p : ℕ → Bool) (q : X → Bool) (f : ℕ → X) (xs : List ℕ) → ((x : ℕ) → has xs x ≡ true → p x ≡ q (f x)) → list_any p xs ≡ list_any q (map f xs)
any_mapped p q f [] same = refl
any_mapped p q f (x ∷ xs) same =
    let here : p x ≡ q (f x) = same x (has-head x xs) in
    let later : list_any p xs ≡ list_any q (map f xs) = any_mapped p q f xs (λ y h. same y (has-later x xs y h)) in
    cc

-- ---- numbers for nodes of any kind keep walks and cycles

module _ {L : Type 0} (named : L → List L) (deps : List (List ℕ)) (is_graph : IsGraph deps) (name : ℕ → L) (names : (k : ℕ) → k < length deps → map name (row deps k) ≡ named (name k)) where
  pub goes_on_named : (m k : ℕ) → k < length deps → goes_on (row deps) m k ≡ goes_on named m (name k)
  goes_on_named zero k low = refl
  goes_on_named (suc m) k low =
      any_mapped (goes_on (row deps) m) (goes_on named m) name (row deps k) (λ d h. goes_on_named m d (is_graph.inside k d h))
      ∙ ap (list_any (goes_on named m)) (names k low)

  pub cyclic_from_name : (k : ℕ) → k < length deps → Cyclic named (name k) → Cyclic (row deps) k
  cyclic_from_name k low cyclic =
      endless_cyclic (row deps) nat_eq unsigned_Decides (range_with_len 0 (length deps)) (length deps) (few deps) (finite deps) k
      (λ m. goes_on_named m k low ∙ cyclic_endless named (name k) cyclic m)

-- ---- nodes before an end are not cyclic

module _ (deps : List (List ℕ)) (acyclic : ℕ) (after : (n d : ℕ) → n < acyclic → has (row deps n) d ≡ true → d < n) where
  ends_before : (m n : ℕ) → n < m → n < acyclic → goes_on (row deps) m n ≡ false
  ends_before zero n low first = absurd (omega (arith, low))
  ends_before (suc m) n low first =
      none_false (goes_on (row deps) m) (row deps n)
      (λ d h. let less = after n d first h in ends_before m d (omega (arith, low, less)) (omega (arith, first, less)))

  pub first_apart : (n : ℕ) → n < acyclic → Cyclic (row deps) n → ⊥
  first_apart n low = ends_apart (row deps) (suc n) n (ends_before (suc n) n (omega arith) low)

-- ---- the new numbers

module _ (given : List (List ℕ)) (is_graph : IsGraph given) (order : List ℕ) (acyclic : ℕ) (is : IsOrder given order acyclic) (places : List ℕ) (placed : (k : ℕ) → k < length order → get_or places (get_or order k 0) 0 ≡ k) where
  -- each node has a place
  place_of : (v : ℕ) → v < length given → (get_or places v 0 < length given) × (get_or order (get_or places v 0) 0 ≡ v)
  place_of v low =
      let k = has_at order v (is.all v low) in
      let at : get_or places v 0 ≡ k.0 = subst (λ x. get_or places x 0 ≡ k.0) k.2 (placed k.0 k.1) in
      (omega (arith, at, k.1, is.listed), subst (λ j. get_or order j 0 ≡ v) (sym at) k.2)

  abbrev deps : List (List ℕ)
  deps = replaced given order places

  deps_len : length deps ≡ length given
  deps_len = length-map order (λ v. map (λ x. get_or places x 0) (row given v)) ∙ is.listed

  deps_at : (k : ℕ) → k < length given → row deps k ≡ map (λ x. get_or places x 0) (row given (get_or order k 0))
  deps_at k low = get_or-map (λ v. map (λ x. get_or places x 0) (row given v)) order k 0 [] (omega (arith, low, is.listed))

  -- a dependency under its old number
  dep_of : (k d : ℕ) → k < length given → has (row deps k) d ≡ true → (x : ℕ) × (has (row given (get_or order k 0)) x ≡ true) × (d ≡ get_or places x 0)
  dep_of k d low h = mapped_has (λ x. get_or places x 0) (row given (get_or order k 0)) d (subst (λ r. has r d ≡ true) (deps_at k low) h)

  none_past : (k d : ℕ) → length given ≤ k → has (row deps k) d ≡ true → ⊥
  none_past k d past h = true≢false (sym (subst (λ r. has r d ≡ true) (get_or_past deps k [] (omega (arith, past, deps_len))) h))

  pub new_graph : IsGraph deps
  unfolding IsDistinct
  new_graph = record {
    distinct = λ n. elim (below_or_past n (length given)) [
      | inl low ↦ subst (IsDistinct nat_eq) (sym (deps_at n low))
          (distinct_mapped (λ x. get_or places x 0) (row given (get_or order n 0)) (is_graph.distinct (get_or order n 0))
          (λ x y i j e.
          let a = place_of x (is_graph.inside (get_or order n 0) x i) in
          let b = place_of y (is_graph.inside (get_or order n 0) y j) in
          sym a.1 ∙ ap (λ p. get_or order p 0) e ∙ b.1))
      | inr past ↦ subst (IsDistinct nat_eq) (sym (get_or_past deps n [] (omega (arith, past, deps_len)))) tt
    ];
    inside = λ n d h. elim (below_or_past n (length given)) [
      | inl low ↦
          let x = dep_of n d low h in
          let p = place_of x.0 (is_graph.inside (get_or order n 0) x.0 x.1) in
          omega (arith, x.2, p.0, deps_len)
      | inr past ↦ absurd (none_past n d past h)
    ];
  }

  names : (k : ℕ) → k < length given → map (λ j. get_or order j 0) (row deps k) ≡ row given (get_or order k 0)
  names k low =
      ap (map (λ j. get_or order j 0)) (deps_at k low)
      ∙ back (λ x. get_or places x 0) (λ j. get_or order j 0) (row given (get_or order k 0)) (λ x h. (place_of x (is_graph.inside (get_or order k 0) x h)).1)

  pub new_numbers : IsRenumbered given order deps
  new_numbers = record { size = deps_len; listed = is.listed; once = is.once; nodes = is.nodes; same = names }

  pub new_order : IsOrdered deps acyclic
  new_order = record {
    within = omega (arith, is.within, deps_len);
    after = λ n d first h.
        let x = dep_of n d (omega (arith, first, is.within)) h in
        let j = has_at (take n order) x.0 (is.after n x.0 first x.1) in
        let short : j.0 < n = omega (arith, j.1, length-take n order) in
        let there : get_or order j.0 0 ≡ x.0 = sym (get_or-take n order j.0 0 short) ∙ j.2 in
        let at : get_or places x.0 0 ≡ j.0 = subst (λ v. get_or places v 0 ≡ j.0) there (placed j.0 (omega (arith, short, first, is.within, is.listed))) in
        omega (arith, x.2, at, short);
    behind = λ n past low.
        cyclic_from_name (row given) deps new_graph (λ j. get_or order j 0) (λ k l. names k (omega (arith, l, deps_len))) n low (is.behind n past (omega (arith, low, deps_len)));
  }

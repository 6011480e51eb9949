-- At the end of the countdown: the nodes in order are those that are not cyclic.
use Rattle.std.proofs.Common.{◌≡◌, ℕ, zero, suc, ◌<◌, inl, inr, Bool, true, false, not, List, length, get_or, take, sym, ap, ◌∙◌, subst, arith, refl, Decides, eqb-true, eq-eqb, get_or-take, length-take}
use Rattle.std.specs.Prelude.{nat_eq}
use Rattle.std.specs.List.{list_any, range_with_len}
use Rattle.std.specs.Cmp.{nat_eq_equiv, unsigned_Decides}
use Rattle.std.proofs.lemmas.Map.Views.{Contains-from_any, list_any-from_Contains}
use Rattle.edges.specs.Walks.{Cyclic, goes_on}
use Rattle.edges.specs.Rows.{row, has, IsGraph}
use Rattle.edges.specs.Counting.{Counting, count}
use Rattle.edges.proofs.Tests.{cases_of, not_both, any_of, any_in, not-false, isnt}
use Rattle.edges.proofs.Lists.{has_at, finite, few}
use Rattle.edges.proofs.Cycles.{Endless, cyclic_endless, endless_cyclic}
use Rattle.edges.proofs.Counting.{count-some}

pub none_false : (p : ℕ → Bool) (ds : List ℕ) → ((d : ℕ) → has ds d ≡ true → p d ≡ false) → list_any p ds ≡ false
none_false p ds each = elim (cases_of (list_any p ds)) [
  | inl some ↦
      let x = any_of p ds some in
      not_both (p x.0) x.2 (each x.0 (list_any-from_Contains nat_eq_equiv x.0 ds x.1))
  | inr none ↦ none
]

module _ (plan : List (List ℕ)) (is_graph : IsGraph plan) (order left : List ℕ) (ended : Counting plan (λ d v. has order d) order left) where
  -- the node at a place has no walk of more edges than nodes before it
  ends_at : (m i : ℕ) → i < m → i < length order → goes_on (row plan) m (get_or order i 0) ≡ false
  ends_at zero i low within = absurd (omega (arith, low))
  ends_at (suc m) i low within =
      none_false (goes_on (row plan) m) (row plan (get_or order i 0))
      (λ d h.
      let k = has_at (take i order) d (ended.after i within d h) in
      let short : k.0 < i = omega (arith, k.1, length-take i order) in
      let there : get_or order k.0 0 ≡ d = sym (get_or-take i order k.0 0 short) ∙ k.2 in
      subst (λ x. goes_on (row plan) m x ≡ false) there (ends_at m k.0 (omega (arith, short, low)) (omega (arith, short, within))))

  pub ends_ordered : (v : ℕ) → has order v ≡ true → goes_on (row plan) (length order) v ≡ false
  ends_ordered v h =
      let k = has_at order v h in
      subst (λ x. goes_on (row plan) (length order) x ≡ false) k.2 (ends_at (length order) k.0 k.1 k.1)

  -- what is never in order depends on such a node again
  pub endless_else : (v : ℕ) → v < length plan → has order v ≡ false → Endless (row plan) v
  endless_else v low isnt zero = refl
  endless_else v low isnt (suc m) =
      let some : 0 < count (λ d. not (has order d)) (row plan v) =
      let ne : get_or left v 0 ≡ 0 → ⊥ = λ z. not_both (has order v) (ended.zero_in v low z) isnt in
      let c = ended.counts v low in
      omega (arith, c, ne) in
      let d = count-some (λ d. not (has order d)) (row plan v) some in
      any_in (goes_on (row plan) m) (row plan v) d.0 (Contains-from_any eqb-true d.0 (row plan v) d.1)
      (endless_else d.0 (is_graph.inside v d.0 d.1) (not-false (has order d.0) d.2) m)

module _ (plan : List (List ℕ)) (is_graph : IsGraph plan) (order left : List ℕ) (ended : Counting plan (λ d v. has order d) order left) where
  -- the nodes that are never in order are the cyclic ones
  pub unordered_decides : (v : ℕ) → v < length plan → Decides (not (has order v)) (Cyclic (row plan) v)
  unordered_decides v low = (
    λ isnt. endless_cyclic (row plan) nat_eq unsigned_Decides (range_with_len 0 (length plan)) (length plan) (few plan) (finite plan) v (endless_else plan is_graph order left ended v low (not-false' (has order v) isnt)),
    λ cyclic. elim (cases_of (has order v)) [
      | inl is ↦ not_both (goes_on (row plan) (length order) v) (cyclic_endless (row plan) v cyclic (length order)) (ends_ordered plan is_graph order left ended v is)
      | inr isnt ↦ ap not isnt
    ],
  )
    where
      not-false' : (b : Bool) → not b ≡ true → b ≡ false
      not-false' = not-false

  -- a count is 0 exactly where no dependency is left
  pub left_decides : (v : ℕ) → v < length plan → Decides (not (nat_eq (get_or left v 0) 0)) (Cyclic (row plan) v)
  left_decides v low =
      let u = unordered_decides v low in (
        λ isnt. u.0 (elim (cases_of (has order v)) [
          | inl is ↦ absurd (not_both (nat_eq (get_or left v 0) 0) (eq-eqb (get_or left v 0) 0 (ended.in_zero v is).1) (not-false (nat_eq (get_or left v 0) 0) isnt))
          | inr isnt' ↦ ap not isnt'
        ]),
        λ cyclic. elim (cases_of (nat_eq (get_or left v 0) 0)) [
          | inl zero_left ↦ absurd (not_both (has order v) (ended.zero_in v low (eqb-true (get_or left v 0) 0 zero_left)) (not-false (has order v) (u.1 cyclic)))
          | inr some ↦ ap not some
        ],
      )

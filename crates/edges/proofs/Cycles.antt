-- A node is cyclic where walks from it go on for ever, and a walk of bounded length tells.
use Rattle.std.proofs.Common.{◌≡◌, ℕ, zero, suc, ◌+◌, ◌<◌, ◌≤◌, inl, inr, Bool, true, false, List, [], ◌∷◌, length, Contains, sym, subst, arith, refl, Decides, true≢false}
use Rattle.std.specs.List.{list_any, IsDistinct}
use Rattle.std.specs.Cmp.{decided}
use Rattle.std.proofs.lemmas.Map.Keys.{IsDistinct-cons}
use Rattle.std.proofs.lemmas.Map.Made.{length-le_from_is_member}
use Rattle.edges.specs.Walks.{Walk, Cyclic, goes_on, is_cyclic}
use Rattle.edges.proofs.Tests.{cases_of, not_both, isnt, any_of, any_in, none_any}

module _ {L : Type 0} (deps : L → List L) where
  -- as long a walk as one likes begins at t
  abbrev pub Endless : L → Type 0
  Endless t = (m : ℕ) → goes_on deps m t ≡ true

  goes_on_less : (n : ℕ) (t : L) → goes_on deps (suc n) t ≡ true → goes_on deps n t ≡ true
  goes_on_less zero t holds = refl
  goes_on_less (suc n) t holds =
      let next = any_of (goes_on deps (suc n)) (deps t) holds in
      any_in (goes_on deps n) (deps t) next.0 next.1 (goes_on_less n next.0 next.2)

  -- a walk from the end of a walk is one from its beginning
  goes_on_before : (m n : ℕ) (a b : L) → Walk deps n a b → goes_on deps m b ≡ true → goes_on deps m a ≡ true
  goes_on_before m zero a b w holds = subst (λ x. goes_on deps m x ≡ true) (sym w) holds
  goes_on_before m (suc n) a b w holds =
      goes_on_less m a (any_in (goes_on deps m) (deps a) w.0 w.1 (goes_on_before m n w.0 b w.2 holds))

  around_endless : (c : L) (k : ℕ) → Walk deps (suc k) c c → Endless c
  around_endless c k w zero = refl
  around_endless c k w (suc m) = any_in (goes_on deps m) (deps c) w.0 w.1 (goes_on_before m k w.0 c w.2 (around_endless c k w m))

  pub cyclic_endless : (t : L) → Cyclic deps t → Endless t
  cyclic_endless t cyclic m = goes_on_before m cyclic.1.0 t cyclic.0 cyclic.1.1 (around_endless cyclic.0 cyclic.2.0 cyclic.2.1 m)

  walk_more : (n : ℕ) (a b c : L) → Walk deps n a b → Contains (deps b) c → Walk deps (suc n) a c
  walk_more zero a b c w has = (c, subst (λ x. Contains (deps x) c) (sym w) has, refl)
  walk_more (suc n) a b c w has = (w.0, w.1, walk_more n w.0 b c w.2 has)

  -- what depends on a cyclic node is cyclic
  pub cyclic_before : (a d : L) → Contains (deps a) d → Cyclic deps d → Cyclic deps a
  cyclic_before a d has cyclic = (cyclic.0, (suc cyclic.1.0, (d, has, cyclic.1.1)), cyclic.2)

  -- a walk that ends is no edge longer from a dependency
  pub ends_next : (n : ℕ) (t d : L) → Contains (deps t) d → goes_on deps (suc n) t ≡ false → goes_on deps n d ≡ false
  ends_next n t d has ends = isnt (goes_on deps n d) (λ holds. not_both (goes_on deps (suc n) t) (any_in (goes_on deps n) (deps t) d has holds) ends)

  -- where walks end there is no cycle
  pub ends_apart : (n : ℕ) (t : L) → goes_on deps n t ≡ false → Cyclic deps t → ⊥
  ends_apart n t ends cyclic = not_both (goes_on deps n t) (cyclic_endless t cyclic n) ends

  -- no more nodes have dependencies than `nodes`: they are all declared in a list that is no longer
  module _ (same : L → L → Bool) (decides : (a b : L) → Decides (same a b) (a ≡ b)) (declared : List L) (nodes : ℕ) (few : length declared ≤ nodes)
      (finite : (t d : L) → Contains (deps t) d → list_any (same t) declared ≡ true) where
    -- a walk of more edges than nodes are declared comes to one of those that it passed
    find_cycle : (m : ℕ) (c : L) (passed : List L) → IsDistinct same passed → ((v : L) → list_any (same v) passed ≡ true → (list_any (same v) declared ≡ true) × ((k : ℕ) × Walk deps (suc k) v c))
        → goes_on deps m c ≡ true → length declared < m + length passed → Cyclic deps c
    find_cycle zero c passed distinct known holds many =
        absurd (omega (arith, many, length-le_from_is_member (decided same decides) passed declared distinct (λ v has. (known v has).0)))
    find_cycle (suc m) c passed distinct known holds many = elim (cases_of (list_any (same c) passed)) [
      | inl back ↦ (c, (0, refl), (known c back).1)
      | inr new ↦
          let next = any_of (goes_on deps m) (deps c) holds in
          let d = next.0 in
          cyclic_before c d next.1
          (find_cycle m d (c ∷ passed) (IsDistinct-cons same c passed (none_any (same c) passed new) distinct)
          (λ v has. elim (cases_of (same v c)) [
            | inl is ↦
                let e : v ≡ c = (decides v c).0 is in
                subst (λ x. (list_any (same x) declared ≡ true) × ((k : ℕ) × Walk deps (suc k) x d)) (sym e) (finite c d next.1, (0, (d, next.1, refl)))
            | inr not ↦
                let older : list_any (same v) passed ≡ true = rw not at has in
                let was = known v older in
                (was.0, (suc was.1.0, walk_more (suc was.1.0) v c d was.1.1 next.1))
          ])
          next.2 (omega (arith, many)))
    ]

    pub cyclic_from_test : (t : L) → is_cyclic deps nodes t ≡ true → Cyclic deps t
    unfolding IsDistinct
    cyclic_from_test t holds = find_cycle (suc nodes) t [] tt (λ v has. absurd (true≢false (sym has))) holds (omega (arith, few))

    -- the bounded test is the definition
    pub is_cyclic_decides : (t : L) → Decides (is_cyclic deps nodes t) (Cyclic deps t)
    is_cyclic_decides t = (cyclic_from_test t, λ cyclic. cyclic_endless t cyclic (suc nodes))

    pub endless_cyclic : (t : L) → Endless t → Cyclic deps t
    endless_cyclic t endless = cyclic_from_test t (endless (suc nodes))

    pub test_ends : (t : L) → (Cyclic deps t → ⊥) → is_cyclic deps nodes t ≡ false
    test_ends t apart = isnt (is_cyclic deps nodes t) (λ holds. apart (cyclic_from_test t holds))

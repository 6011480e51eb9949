-- A walk from one file to another can be cut to one that passes no file twice, so walks of bounded length find all that is reached.
use Rattle.std.proofs.Common.{◌≡◌, ℕ, zero, suc, ◌≤◌, inl, inr, true, false, List, [], ◌∷◌, length, Contains, sym, subst, arith, true≢false}
use Rattle.std.specs.List.{list_any, IsDistinct}
use Rattle.std.specs.Str.{bytes_eq}
use Rattle.std.specs.Cmp.{decided}
use Rattle.std.proofs.lemmas.Slice.Eq.{bytes_eq-Decides}
use Rattle.std.proofs.lemmas.Map.Keys.{IsDistinct-cons, IsDistinct-tail}
use Rattle.std.proofs.lemmas.Map.Made.{length-le_from_is_member}
use Rattle.edges.specs.Walks.{Walk, OnCycle}
use Rattle.edges.proofs.Tests.{cases_of, either, or_left, or_right, any_of, any_in, none_any}
use Rattle.loading.specs.Loads.{Path}
use Rattle.loading.specs.Modules.{reaches, on_cycle}

module _ (loads : Path → List Path) where
  -- a walk from a through the files that are listed, the last of which is b
  abbrev Trail : Path → List Path → Path → Type 0
  Trail a [] b = a ≡ b
  Trail a (c ∷ cs) b = Contains (loads a) c × Trail c cs b

  walked : (a : Path) (cs : List Path) (b : Path) → Trail a cs b → Walk loads (length cs) a b
  walked a [] b t = t
  walked a (c ∷ cs) b t = (c, t.0, walked c cs b t.1)

  abbrev Distinct : List Path → Type 0
  Distinct = IsDistinct bytes_eq

  -- a trail from a, that passes no file twice
  abbrev Straight : Path → Path → Type 0
  Straight a b = (cs : List Path) × Trail a cs b × Distinct (a ∷ cs)

  -- the rest of a trail from a file that it passes
  here : (x a : Path) (cs : List Path) (b : Path) → Trail a cs b → Distinct (a ∷ cs) → bytes_eq x a ≡ true → Straight x b
  here x a cs b t d is = let e : x ≡ a = (bytes_eq-Decides x a).0 is in subst (λ y. Straight y b) (sym e) (cs, t, d)

  rest_from : (x a : Path) (cs : List Path) (b : Path) → Trail a cs b → Distinct (a ∷ cs) → list_any (bytes_eq x) (a ∷ cs) ≡ true → Straight x b
  rest_from x a [] b t d h = elim (either (bytes_eq x a) false h) [
    | inl is ↦ here x a [] b t d is
    | inr none ↦ absurd (true≢false (sym none))
  ]
  rest_from x a (c ∷ cs) b t d h = elim (either (bytes_eq x a) (list_any (bytes_eq x) (c ∷ cs)) h) [
    | inl is ↦ here x a (c ∷ cs) b t d is
    | inr later ↦ rest_from x c cs b t.1 (IsDistinct-tail bytes_eq a (c ∷ cs) d) later
  ]

  straight : (n : ℕ) (a b : Path) → Walk loads n a b → Straight a b
  unfolding IsDistinct
  straight zero a b w = ([], w, IsDistinct-cons bytes_eq a [] tt tt)
  straight (suc n) a b w = let later = straight n w.0 b w.2 in elim (cases_of (list_any (bytes_eq a) (w.0 ∷ later.0))) [
    | inl back ↦ rest_from a w.0 later.0 b later.1 later.2 back
    | inr new ↦ (w.0 ∷ later.0, (w.1, later.1), IsDistinct-cons bytes_eq a (w.0 ∷ later.0) (none_any (bytes_eq a) (w.0 ∷ later.0) new) later.2)
  ]

  -- ---- what is reached is what walks lead to

  pub walk_from_reaches : (n : ℕ) (a b : Path) → reaches loads n a b ≡ true → (k : ℕ) × Walk loads k a b
  walk_from_reaches zero a b h = (0, (bytes_eq-Decides a b).0 h)
  walk_from_reaches (suc n) a b h = elim (either (bytes_eq a b) (list_any (λ c. reaches loads n c b) (loads a)) h) [
    | inl here ↦ (0, (bytes_eq-Decides a b).0 here)
    | inr later ↦
        let c = any_of (λ c. reaches loads n c b) (loads a) later in
        let w = walk_from_reaches n c.0 b c.2 in
        (suc w.0, (c.0, c.1, w.1))
  ]

  reaches_from_walk : (n k : ℕ) (a b : Path) → k ≤ n → Walk loads k a b → reaches loads n a b ≡ true
  reaches_from_walk zero zero a b low w = (bytes_eq-Decides a b).1 w
  reaches_from_walk zero (suc k) a b low w = absurd (omega (arith, low))
  reaches_from_walk (suc n) zero a b low w = or_left (bytes_eq a b) (list_any (λ c. reaches loads n c b) (loads a)) ((bytes_eq-Decides a b).1 w)
  reaches_from_walk (suc n) (suc k) a b low w =
      or_right (bytes_eq a b) (list_any (λ c. reaches loads n c b) (loads a))
      (any_in (λ c. reaches loads n c b) (loads a) w.0 w.1 (reaches_from_walk n k w.0 b (omega (arith, low)) w.2))

  module _ (modules : List Path) (inside : (p q : Path) → Contains (loads p) q → list_any (bytes_eq q) modules ≡ true) where
    trail_inside : (a : Path) (cs : List Path) (b q : Path) → Trail a cs b → list_any (bytes_eq q) cs ≡ true → list_any (bytes_eq q) modules ≡ true
    trail_inside a [] b q t h = absurd (true≢false (sym h))
    trail_inside a (c ∷ cs) b q t h = elim (either (bytes_eq q c) (list_any (bytes_eq q) cs) h) [
      | inl here ↦ let e : q ≡ c = (bytes_eq-Decides q c).0 here in subst (λ y. list_any (bytes_eq y) modules ≡ true) (sym e) (inside a c t.0)
      | inr later ↦ trail_inside c cs b q t.1 later
    ]

    pub reaches_all : (n : ℕ) (a b : Path) → Walk loads n a b → reaches loads (length modules) a b ≡ true
    reaches_all n a b w =
        let s = straight n a b w in
        let short : length s.0 ≤ length modules =
        length-le_from_is_member (decided bytes_eq bytes_eq-Decides) s.0 modules (IsDistinct-tail bytes_eq a s.0 s.2) (λ q h. trail_inside a s.0 b q s.1 h) in
        reaches_from_walk (length modules) (length s.0) a b short (walked a s.0 b s.1)

    -- the test tells the files on cycles
    pub cycle_from_test : (p : Path) → on_cycle loads modules p ≡ true → OnCycle loads p
    cycle_from_test p h =
        let q = any_of (λ q. reaches loads (length modules) q p) (loads p) h in
        let w = walk_from_reaches (length modules) q.0 p q.2 in
        (w.0, (q.0, q.1, w.1))

    pub test_from_cycle : (p : Path) → OnCycle loads p → on_cycle loads modules p ≡ true
    test_from_cycle p c = any_in (λ q. reaches loads (length modules) q p) (loads p) c.1.0 c.1.1 (reaches_all c.0 c.1.0 p c.1.2)

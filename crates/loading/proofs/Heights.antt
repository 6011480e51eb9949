-- A file on no cycle stands above every module that it loads.
use Rattle.std.proofs.Common.{◌≡◌, ℕ, zero, suc, ◌<◌, ◌≤◌, Bool, true, false, List, [], ◌∷◌, length, map, Contains, sym, ap, subst, arith, refl, max, if◌then◌else◌}
use Rattle.std.specs.List.{list_any}
use Rattle.std.specs.Str.{bytes_eq}
use Rattle.std.proofs.lemmas.Slice.Eq.{bytes_eq-Decides}
use Rattle.edges.specs.Walks.{Walk, Cyclic}
use Rattle.edges.proofs.Tests.{not_both}
use Rattle.edges.proofs.Outcomes.{outcome_keeps}
use Rattle.loading.specs.Loads.{Path}
use Rattle.loading.specs.Modules.{on_cycle, open_loads, above_all, height}
use Rattle.loading.proofs.Trails.{test_from_cycle}

above-max : (a b : ℕ) → (a ≤ max a b) × (b ≤ max a b)
above-max a b = (omega arith, omega arith)

-- each is below
above : (hs : List ℕ) (h : ℕ) → Contains hs h → h < above_all hs
above [] h c = absurd (omega (arith, c.1))
above (x ∷ hs) h (zero, low, e) = let m = above-max (suc x) (above_all hs) in omega (arith, m, e)
above (x ∷ hs) h (suc i, low, e) = let m = above-max (suc x) (above_all hs) in let r = above hs h (i, omega (arith, low), e) in omega (arith, m, r)

Contains-map : {X Y : Type 0} (f : X → Y) (xs : List X) (x : X) → Contains xs x → Contains (map f xs) (f x)
Contains-map f [] x c = absurd (omega (arith, c.1))
Contains-map f (y ∷ xs) x (zero, low, e) = (0, omega arith, ap f e)
Contains-map f (y ∷ xs) x (suc i, low, e) = let r = Contains-map f xs x (i, omega (arith, low), e) in (suc r.0, omega (arith, r.1), r.2)

module _ (loads : Path → List Path) (modules : List Path) (inside : (p q : Path) → Contains (loads p) q → list_any (bytes_eq q) modules ≡ true)
    (within : (p q : Path) → Contains (loads p) q → list_any (bytes_eq p) modules ≡ true) where
  abbrev onward : Path → List Path
  onward = open_loads loads modules

  onward_is : (p q : Path) → Contains (onward p) q → (on_cycle loads modules p ≡ false) × Contains (loads p) q
  onward_is p q c = go (on_cycle loads modules p) refl c
    where
      go : (b : Bool) → on_cycle loads modules p ≡ b → Contains (if b then [] else loads p) q → (on_cycle loads modules p ≡ false) × Contains (loads p) q
      go true e c = absurd (omega (arith, c.1))
      go false e c = (e, c)

  loads_walk : (n : ℕ) (a b : Path) → Walk onward n a b → Walk loads n a b
  loads_walk zero a b w = w
  loads_walk (suc n) a b w = (w.0, (onward_is a w.0 w.1).1, loads_walk n w.0 b w.2)

  -- no walk along these leads back
  no_cycle : (t : Path) → Cyclic onward t → ⊥
  no_cycle t c =
      let around = c.2 in
      let start = onward_is c.0 around.1.0 around.1.1 in
      not_both (on_cycle loads modules c.0) (test_from_cycle loads modules inside c.0 (around.0, loads_walk (suc around.0) c.0 c.0 around.1)) start.0

  onward_within : (t d : Path) → Contains (onward t) d → list_any (bytes_eq t) modules ≡ true
  onward_within t d c = within t d (onward_is t d c).1

  pub height_steps : (p : Path) → height loads modules p ≡ above_all (map (height loads modules) (onward p))
  height_steps p =
      (outcome_keeps onward bytes_eq bytes_eq-Decides modules (length modules) (omega arith) onward_within (λ _. 0) (λ _ hs. above_all hs)).stepped p (no_cycle p)

  pub load_is_lower : (p q : Path) → on_cycle loads modules p ≡ false → Contains (loads p) q → height loads modules q < height loads modules p
  load_is_lower p q off c =
      let is : onward p ≡ loads p = ap (λ b. if b then [] else loads p) off in
      let there : Contains (onward p) q = subst (λ qs. Contains qs q) (sym is) c in
      let low = above (map (height loads modules) (onward p)) (height loads modules q) (Contains-map (height loads modules) (onward p) q there) in
      let e = height_steps p in
      omega (arith, low, e)

-- What a node is handed fits, where all outcomes are coherent.
use Rattle.std.proofs.Common.{◌≡◌, ◌⊎◌, inl, inr, zero, suc, List, [], ◌∷◌, map, Contains, sym, subst, arith}
use Rattle.edges.proofs.Tests.{Contains-head, Contains-later}
use Rattle.coherence.specs.Together.{Graph, given, among, AllCoherent, Fits}

contains_mapped : {A B : Type 0} (f : A → B) (xs : List A) (y : B) → Contains (map f xs) y → (x : A) × Contains xs x × (y ≡ f x)
contains_mapped f [] y c = absurd (omega (arith, c.1))
contains_mapped f (x ∷ xs) y (zero, low, is) = (x, Contains-head x xs, sym is)
contains_mapped f (x ∷ xs) y (suc k, low, is) =
    let later = contains_mapped f xs y (k, omega (arith, low), is) in
    (later.0, Contains-later x xs later.0 later.1, later.2)

module _ {N V D I O : Type 0} (g : Graph N V D I O) (all : AllCoherent g) where
  was_given : (t : N) (d : D) → among g (map g.out (g.deps t)) d → given g t d
  was_given t d (inl h) = inl h
  was_given t d (inr i) =
      let u = contains_mapped g.out (g.deps t) i.0 i.1 in
      inr (u.0, u.1, subst (λ v. g.has v d) u.2 i.2)

  somewhere : (t : N) (d : D) → given g t d → g.base d ⊎ ((u : N) × g.has (g.out u) d)
  somewhere t d (inl h) = inl h
  somewhere t d (inr h) = inr (h.0, h.2)

  pub handed_fits : (t : N) → g.named t → Fits g t (map g.out (g.deps t))
  handed_fits t n = record {
    coherent = λ a b i j e. all.coherent a b (somewhere t a (was_given t a i)) (somewhere t b (was_given t b j)) e;
    fresh = λ a i e. all.fresh t n a (was_given t a i) e;
  }

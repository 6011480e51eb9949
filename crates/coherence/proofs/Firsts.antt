-- A depset of serial 0 joins what an evaluation made.
use Rattle.std.proofs.Common.{◌≡◌, ◌⊎◌, inl, inr, ℕ, sym, ap, ◌∙◌, arith}
use Rattle.coherence.specs.Coherent.{Depsets, AreCoherent, AreFresh, IsMade}

module _ {D I O : Type 0} (id : D → I) (owner : I → O) (serial : I → ℕ) (o : O) (given made : Depsets D) (fresh : AreFresh id owner o given) (is : IsMade id owner serial o given made)
    (z : D) (own : owner (id z) ≡ o) (first : serial (id z) ≡ 0) where
  not_given : (a : D) → given a → id a ≡ id z → ⊥
  not_given a g e = fresh a g (ap owner e ∙ own)

  not_made : (a : D) → made a → id a ≡ id z → ⊥
  not_made a m e = elim (is.theirs a m) [
    | inl g ↦ not_given a g e
    | inr new ↦ let s : serial (id a) ≡ 0 = ap serial e ∙ first in absurd (omega (arith, s, new.1))
  ]

  pub first_joins : AreCoherent id owner (λ d. given d ⊎ (made d ⊎ (d ≡ z)))
  first_joins a b (inl g) (inl h) e = is.together a b (inl g) (inl h) e
  first_joins a b (inl g) (inr (inl m)) e = is.together a b (inl g) (inr m) e
  first_joins a b (inl g) (inr (inr k)) e = absurd (not_given a g (e ∙ ap id k))
  first_joins a b (inr (inl m)) (inl h) e = is.together a b (inr m) (inl h) e
  first_joins a b (inr (inl m)) (inr (inl n)) e = is.together a b (inr m) (inr n) e
  first_joins a b (inr (inl m)) (inr (inr k)) e = absurd (not_made a m (e ∙ ap id k))
  first_joins a b (inr (inr j)) (inl h) e = absurd (not_given b h (sym e ∙ ap id j))
  first_joins a b (inr (inr j)) (inr (inl n)) e = absurd (not_made b n (sym e ∙ ap id j))
  first_joins a b (inr (inr j)) (inr (inr k)) e = j ∙ sym k

-- When depsets that are seen together are one tree for an id, and fresh for an owner (this
-- project's own notions: Bazel compares depsets by identity, and a report tells them by id).
use Rattle.std.specs.Prelude.{◌≡◌, ◌≢◌, ◌⊎◌, ℕ, ◌≤◌}

-- a collection of depsets
abbrev pub Depsets : Type 0 → Type 1
Depsets D = D → Type 0

module _ {D I O : Type 0} (id : D → I) (owner : I → O) where
  -- Any two depsets of the collection with one id are the same.
  abbrev pub AreCoherent : Depsets D → Type 0
  AreCoherent S = (a b : D) → S a → S b → id a ≡ id b → a ≡ b

  -- No depset of the collection has this owner.
  abbrev pub AreFresh : O → Depsets D → Type 0
  AreFresh o S = (a : D) → S a → owner (id a) ≢ o

  -- What an evaluation of this owner made, from what it was given: with that it is coherent, and
  -- what is new is the owner's, with a serial from 1.
  pub record IsMade (serial : I → ℕ) (o : O) (given made : Depsets D) : Type 0 where
    pub together : AreCoherent (λ d. given d ⊎ made d)
    pub theirs : (d : D) → made d → given d ⊎ ((owner (id d) ≡ o) × (1 ≤ serial (id d)))

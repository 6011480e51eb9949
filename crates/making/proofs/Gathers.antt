-- One turn of gathering, whatever is gathered.
use Rattle.std.proofs.Common.{◌≡◌, List, ◌∷◌, Ok, Result, ap, ◌∙◌}
use Rattle.ticks.specs.Ticking.{FaultOr}
use Rattle.values.specs.declared.value.Value.{Value}
use Rattle.ticks.specs.declared.ticks.Kind.{Kind}
use Rattle.ticks.specs.declared.ticks.Broken.{Broken}
use Rattle.ticks.specs.declared.ticks.Broken.TheVariants as broken
use Rattle.operations.specs.States.{then_give}
use Rattle.operations.specs.Depsets.{gathered}

module _ {B : Type 0} (f : Value → B → Result B Kind) {vs ws : List Value} {v : Value} (p : vs ≡ v ∷ ws) (b : B) where
  pub gathered-next : gathered f vs b ≡ then_give (f v b) (λ c. gathered f ws c)
  gathered-next = ap (λ l. gathered f l b) p

  pub gathered-then : (c : B) → f v b ≡ Ok c → gathered f vs b ≡ gathered f ws c
  gathered-then c e = gathered-next ∙ ap (λ r. then_give r (λ c. gathered f ws c)) e

  pub gathered-fault : (e : Broken) → FaultOr (f v b) e → FaultOr (gathered f vs b) e
  gathered-fault (broken.Kind k) q = gathered-next ∙ ap (λ r. then_give r (λ c. gathered f ws c)) q
  gathered-fault broken.NoMemory q = tt

-- One turn of a loop over the items of a value.
use Rattle.std.proofs.Common.{◌≡◌, Bool, true, List, ◌∷◌, Ok, if◌then◌else◌, ap, ◌∙◌}
use Rattle.ticks.specs.Ticking.{Count, Ticking, then_on}
use Rattle.values.specs.declared.value.Value.{Value}
use Rattle.operations.specs.Equality.{among}

module _ (eq : Value → Value → Count → Ticking Bool) (x : Value) {xs rest : List Value} {y : Value} (p : xs ≡ y ∷ rest) (c : Count) where
  pub among-then : (r : Ticking Bool) → eq y x c ≡ r → among eq x xs c ≡ then_on r (λ b d. if b then Ok (true, d) else among eq x rest d)
  among-then r e = ap (λ l. among eq x l c) p ∙ ap (λ r. then_on r (λ b d. if b then Ok (true, d) else among eq x rest d)) e

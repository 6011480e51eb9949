-- What a value is for an attribute, of what is seen of both.
use Rattle.std.proofs.Common.{◌≡◌, ℕ, List, Result, subst}
use Rattle.values.specs.Shape.{Shape}
use Rattle.values.specs.declared.cells.Cell.{Cell}
use Rattle.keys.specs.declared.key.Key.{Key}
use Rattle.leaves.specs.declared.leaf.AttributeKind.{AttributeKind}
use Rattle.ticks.specs.declared.ticks.Broken.{Broken}
use Rattle.ticks.specs.declared.ticks.Kind.TheVariants.{Wrong}
use Rattle.operations.specs.Items.{or_fault}
use Rattle.operations.specs.States.{Gives}
use Rattle.targets.specs.RuleCalls.{typed}
use Rattle.targets.specs.declared.attributes.AttributeValue.{AttributeValue}

pub typed-seen : (h : List Cell) (p : List ℕ) (j k : AttributeKind) (js ks : List Key) (s t : Shape) (r : Result AttributeValue Broken) → j ≡ k → js ≡ ks → s ≡ t
    → Gives (or_fault Wrong (typed h p j js s)) r → Gives (or_fault Wrong (typed h p k ks t)) r
typed-seen h p j k js ks s t r a b c g =
    subst (λ (x : AttributeKind). Gives (or_fault Wrong (typed h p x ks t)) r) a
    (subst (λ (xs : List Key). Gives (or_fault Wrong (typed h p j xs t)) r) b
    (subst (λ (x : Shape). Gives (or_fault Wrong (typed h p j js x)) r) c g))

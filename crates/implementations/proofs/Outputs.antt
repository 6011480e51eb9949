-- Outputs of which there are some, of which there are none, and of which there is at most one.
use Rattle.std.proofs.Common.{◌≡◌, List, [], ◌∷◌, length, Some, Ok, Err, false, refl, arith}
use Rattle.std.specs.Prelude.{◌<◌}
use Rattle.depsets.specs.declared.element.FileRef.{FileRef}
use Rattle.values.specs.declared.value.Value.{Value}
use Rattle.ticks.specs.declared.ticks.Kind.TheVariants.{Arity}
use Rattle.contexts.specs.Actions.{some_outputs}
use Rattle.contexts.specs.Works.{repeats}

pub some_of : (vs : List Value) → 0 < length vs → some_outputs (Some vs) ≡ Ok vs
some_of [] h = absurd (omega (arith, h))
some_of (v ∷ vs) h = refl

pub none_of : (vs : List Value) → length vs ≡ 0 → some_outputs (Some vs) ≡ Err Arity
none_of [] h = refl
none_of (v ∷ vs) h = absurd (omega (arith, h))

pub few_repeat_not : (fs : List FileRef) → length fs < 2 → false ≡ repeats fs
few_repeat_not [] h = refl
few_repeat_not (f ∷ []) h = refl
few_repeat_not (f ∷ g ∷ fs) h = absurd (omega (arith, h))

-- Calls of what isn't written in Starlark, but for what only one place has.
use Rattle.std.proofs.Common.{◌≡◌, ℕ, List, Some, codes, subst}
use Rattle.leaves.specs.declared.leaf.BuiltIn.{BuiltIn}
use Rattle.leaves.specs.declared.leaf.BuiltIn.TheVariants as built_in
use Rattle.values.specs.declared.value.Value.{Value}
use Rattle.operations.specs.Arguments.{Given}
use Rattle.operations.specs.BuiltIns.{len, str, list, fail}
use Rattle.operations.specs.Calls.{built_in_call}
use Rattle.operations.specs.States.{Op}
use Rattle.operations.specs.declared.state.State.{State}
use Rattle.one_tree.specs.Found.{Set}
use Rattle.holding.specs.Held.{Seen, IsSeen, StateHolds, After}
use Rattle.holding.proofs.BuiltIns.{len_keeps, str_keeps, range_keeps, list_keeps, fail_keeps, argument_keeps}
use Rattle.holding.proofs.Depsets.{depset_keeps}
use Rattle.holding.proofs.Steps.{IfSome, HasValues}
pub use Rattle.holding.proofs.Instances.{instance_keeps}
pub use Rattle.holding.proofs.Methods.{method_keeps}

module _ {owner : List ℕ} {base : List Set} (k : Seen owner base) (s : State) (holds : StateHolds k s) where
  each_keeps : (b : BuiltIn) (g : Given) → HasValues k.sets g.items → HasValues k.sets g.values
      → IfSome (λ f. After IsSeen k (f s)) (built_in_call b g)
  each_keeps built_in.Len g i j = argument_keeps k s holds (codes "x") len g (λ v l. len_keeps k s holds v) i j
  each_keeps built_in.Str g i j = argument_keeps k s holds (codes "x") str g (λ v l. str_keeps k s holds v) i j
  each_keeps built_in.List g i j = argument_keeps k s holds (codes "x") list g (λ v l. list_keeps k s holds v l) i j
  each_keeps built_in.Fail g i j = argument_keeps k s holds (codes "text") fail g (λ v l. fail_keeps k s holds v) i j
  each_keeps built_in.Range g i j = range_keeps k s holds g
  each_keeps built_in.Depset g i j = depset_keeps k s holds g i j
  each_keeps built_in.Provider g i j = tt
  each_keeps built_in.Rule g i j = tt

  pub built_in_keeps : (b : BuiltIn) (g : Given) → HasValues k.sets g.items → HasValues k.sets g.values → (f : Op Value) → built_in_call b g ≡ Some f
      → After IsSeen k (f s)
  built_in_keeps b g i j f e = subst (IfSome (λ h. After IsSeen k (h s))) e (each_keeps b g i j)

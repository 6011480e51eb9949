-- The methods of what was seen do the same by plain listings.
use Rattle.std.proofs.Common.{◌≡◌, ℕ, List, [], ◌∷◌, map, Option, Some, None, Result, Ok, Err, refl, ap}
use Rattle.depsets.specs.Flat.{nodes}
use Rattle.depsets.specs.Listed.{IsCoherent}
use Rattle.depsets.proofs.Walked.{walked-flat}
use Rattle.values.specs.Shape.{shape}
use Rattle.ticks.specs.declared.ticks.Kind.{Kind}
use Rattle.values.specs.declared.value.Value.{Value}
use Rattle.operations.specs.Arguments.{Given, positions}
use Rattle.operations.specs.Calls as usual
use Rattle.operations.specs.Depsets.{element_value}
use Rattle.operations.specs.Depsets as usual_depsets
use Rattle.operations.specs.Making.{new_list}
use Rattle.operations.specs.Reading.{depset_in}
use Rattle.operations.specs.declared.method.Method.{Method}
use Rattle.operations.specs.declared.method.Method.TheVariants as method
use Rattle.operations.specs.declared.state.State.{State}
use Rattle.one_tree.specs.Found.{Set}
use Rattle.one_tree.specs.Sets.{AreIn}
use Rattle.holding.specs.Held.{Seen, IsSeen, StateHolds}
use Rattle.holding.proofs.Steps.{IfSome, shape_seen, depset_shown}
use Rattle.plain_language.specs.Methods.{to_list, of_depset, listed_with, method_call}

module _ {owner : List ℕ} {base : List Set} (k : Seen owner base) (s : State) (holds : StateHolds k s) where
  -- what was seen has one tree for an id
  coherent : (d : Set) → AreIn (nodes d) k.sets → IsCoherent d
  coherent d i a b p q e = k.one a b (i a p) (i b q) e

  to_list_same : (d : Set) → AreIn (nodes d) k.sets → usual_depsets.to_list d s ≡ to_list d s
  to_list_same d i = ap (λ es. new_list (map element_value es) s) (walked-flat d (coherent d i))

  of_depset_same : (o : Option Set) (vs : List Value) → IfSome (λ d. AreIn (nodes d) k.sets) o
      → usual.of_depset o vs s ≡ of_depset o vs s
  of_depset_same (Some d) [] i = to_list_same d i
  of_depset_same (Some d) (v ∷ vs) i = refl
  of_depset_same None vs i = refl

  listed_same : (r : Result (List Value) Kind) (v : Value) → IsSeen k v
      → usual.method_with r method.ToList v s ≡ listed_with r v s
  listed_same (Ok vs) v i =
      of_depset_same (depset_in (shape s.heap v)) vs (depset_shown k.sets (shape s.heap v) (shape_seen k s v holds i))
  listed_same (Err e) v i = refl

  pub method_same : (m : Method) (v : Value) (g : Given) → IsSeen k v → usual.method_call m v g s ≡ method_call m v g s
  method_same method.ToList v g i = listed_same (positions g) v i
  method_same method.Append v g i = refl
  method_same method.Extend v g i = refl
  method_same method.Get v g i = refl
  method_same method.Keys v g i = refl
  method_same method.Values v g i = refl
  method_same method.Items v g i = refl
  method_same method.Join v g i = refl
  method_same method.Split v g i = refl
  method_same method.StartsWith v g i = refl
  method_same method.EndsWith v g i = refl

-- An instance of a provider keeps the values that its call is given; `DefaultInfo()` makes a depset of its own.
use Rattle.std.proofs.Common.{ℕ, List, [], ◌∷◌, Option, Some, None, Result, Ok, Err}
use Rattle.values.specs.Shape.{shape}
use Rattle.depsets.specs.declared.depset.Order.TheVariants as order
use Rattle.values.specs.declared.cells.Cell.TheVariants as cell
use Rattle.leaves.specs.declared.leaf.MadeId.{MadeId}
use Rattle.leaves.specs.declared.leaf.Provider.{Provider}
use Rattle.ticks.specs.declared.ticks.Kind.{Kind}
use Rattle.ticks.specs.declared.ticks.Kind.TheVariants as kind
use Rattle.values.specs.declared.value.Value.{Value}
use Rattle.operations.specs.Arguments.{Given, Bound, given_for, bound}
use Rattle.operations.specs.Calls.{made_by, instance_call}
use Rattle.operations.specs.Depsets.{new_depset}
use Rattle.operations.specs.Instances.{are_fields, given_fields, new_instance, with_fields, unless_placed, constructed, default_info_parameters, files_in, with_files, if_ok, with_new_files, info_with, info_of, only, new_default_info}
use Rattle.operations.specs.States.{Op, then_give}
use Rattle.operations.specs.declared.state.State.{State}
use Rattle.one_tree.specs.Found.{Set}
use Rattle.holding.specs.Held.{Seen, IsSeen, StateHolds, After}
use Rattle.holding.proofs.Depsets.{new_depset_keeps}
use Rattle.holding.proofs.Givens.{put_fields, first_field, named_has, bound_has}
use Rattle.holding.proofs.Steps.{IfSome, IfGiven, either, then_given, none_in, then_after, new_cell_after, HasValue, HasValues, HasFields}

module _ (s : List Set) where
  fields_given : (fields names : List (List ℕ)) (vs : List Value) → HasValues s vs → HasFields s (given_fields fields names vs)
  fields_given [] names vs i = none_in s
  fields_given (x ∷ xs) names vs i = put_fields s (given_for x names vs) (given_fields xs names vs) (named_has s x names vs i) (fields_given xs names vs i)

  only_has : (os : Bound) → HasFields s os → IfGiven (IfSome (HasValue s)) (only os)
  only_has [] i = tt
  only_has (o ∷ []) i = first_field s o [] i
  only_has (o ∷ p ∷ os) i = tt

module _ {owner : List ℕ} {base : List Set} where
  new_instance_keeps : (k : Seen owner base) (s : State) → StateHolds k s → (p : Provider) (fs : List (Option Value)) → HasFields k.sets fs
      → After IsSeen k (new_instance p fs s)
  new_instance_keeps k s holds p fs i = new_cell_after k s (cell.Instance p fs) 0 holds i

  with_files_keeps : (k : Seen owner base) (s : State) → StateHolds k s → (p : Provider) (v : Value) → IsSeen k v → After IsSeen k (with_files p v s)
  with_files_keeps k s holds p v i = new_instance_keeps k s holds p (Some v ∷ []) (put_fields k.sets (Some v) [] i (none_in k.sets))

  module _ (k : Seen owner base) (s : State) (holds : StateHolds k s) (p : Provider) where
    unless_placed_keeps : (vs : List Value) (f : Op Value) → After IsSeen k (f s) → After IsSeen k (unless_placed vs f s)
    unless_placed_keeps [] f h = h
    unless_placed_keeps (v ∷ vs) f h = tt

    constructed_keeps : (g : Given) → HasValues k.sets g.values → After IsSeen k (constructed p g s)
    constructed_keeps g i =
        unless_placed_keeps g.items (with_fields p g.names g.values)
        (either (After IsSeen k) (are_fields p.fields g.names) (new_instance p (given_fields p.fields g.names g.values) s) (Err kind.Arity)
        (new_instance_keeps k s holds p (given_fields p.fields g.names g.values) (fields_given k.sets p.fields g.names g.values i)) tt)

    -- ---- `DefaultInfo`

    if_ok_keeps : {A : Type 0} (r : Result A Kind) (f : Op Value) → After IsSeen k (f s) → After IsSeen k (if_ok r f s)
    if_ok_keeps (Ok a) f h = h
    if_ok_keeps (Err e) f h = tt

    -- without files
    with_new_files_keeps : After IsSeen k (with_new_files p s)
    with_new_files_keeps =
        then_after IsSeen IsSeen k (new_depset order.Default [] [] s) (with_files p) (new_depset_keeps k s holds order.Default [] [] (none_in k.sets))
        (λ w up v t hs i. with_files_keeps w t hs p v i)

    info_with_keeps : (o : Option Value) → IfSome (HasValue k.sets) o → After IsSeen k (info_with p o s)
    info_with_keeps (Some v) i = if_ok_keeps (files_in (shape s.heap v)) (with_files p v) (with_files_keeps k s holds p v i)
    info_with_keeps None i = with_new_files_keeps

    info_of_keeps : (r : Result (Option Value) Kind) → IfGiven (IfSome (HasValue k.sets)) r → After IsSeen k (info_of p r s)
    info_of_keeps (Ok o) i = info_with_keeps o i
    info_of_keeps (Err e) i = tt

    new_default_info_keeps : (g : Given) → HasValues k.sets g.items → HasValues k.sets g.values → After IsSeen k (new_default_info p g s)
    new_default_info_keeps g i j =
        info_of_keeps (then_give (bound default_info_parameters g) only)
        (then_given (HasFields k.sets) (IfSome (HasValue k.sets)) (bound default_info_parameters g) only
        (bound_has k.sets default_info_parameters g i j) (only_has k.sets))

    made_by_keeps : (o : Option MadeId) (g : Given) → HasValues k.sets g.items → HasValues k.sets g.values → After IsSeen k (made_by o p g s)
    made_by_keeps (Some m) g i j = constructed_keeps g j
    made_by_keeps None g i j = new_default_info_keeps g i j

    pub instance_keeps : (g : Given) → HasValues k.sets g.items → HasValues k.sets g.values → After IsSeen k (instance_call p g s)
    instance_keeps g i j = made_by_keeps p.id g i j

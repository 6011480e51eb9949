-- The place of an implementation keeps what holds.
use Rattle.language.specs.Place.{with_state}
use Rattle.std.proofs.Common.{ℕ, List, Option, Some, None, Ok, Err}
use Rattle.depsets.specs.Listed.{walked}
use Rattle.leaves.specs.declared.leaf.Leaf.{Leaf}
use Rattle.leaves.specs.declared.leaf.Leaf.TheVariants as plain
use Rattle.leaves.specs.declared.leaf.Object.{Object}
use Rattle.leaves.specs.declared.leaf.Object.TheVariants as object
use Rattle.operations.specs.Arguments.{Given}
use Rattle.one_tree.specs.Found.{Set, in_value, in_values}
use Rattle.one_tree.specs.Sets.{AreIn}
use Rattle.keeping.specs.Kept.{Gives}
use Rattle.language.specs.declared.whole.Whole.{Whole}
use Rattle.holding.specs.Held.{Seen, IsSeen, WholeHolds, held}
use Rattle.holding.specs.Places.{PlaceKeeps}
use Rattle.holding.proofs.Steps.{through, same_in, IfGiven, HasValue}
use Rattle.workspace.specs.Labels.{LabelParts}
use Rattle.targets.specs.Checks.{Dependency}
use Rattle.targets.specs.declared.target.Target.{Target}
use Rattle.contexts.specs.Actions.{Working, method_named, method_call}
use Rattle.contexts.specs.Fields.{field}
use Rattle.contexts.specs.Offered.{item}
use Rattle.contexts.specs.declared.method.ActionMethod.{ActionMethod}
use Rattle.contexts.specs.declared.work.Work.{Work}
use Rattle.implementations.specs.Implementations.{action_call, object_method, call_method, implementation_place}
use Rattle.workspace_laws.proofs.Offered.{given_is, in_dependencies, items_are_in}
use Rattle.workspace_laws.proofs.Fields.{fields_are_in}
use Rattle.workspace_laws.proofs.Actions.{in_work, IsWorked, methods_bring_none}

module _ (owner : List ℕ) (base : List Set) where
  worked_gives : (k : Seen owner base) (w : Whole Work) (r : Working) → WholeHolds in_work k w → IfGiven (IsWorked k.sets) r
      → Gives (held owner base in_work) IsSeen k (with_state w r)
  worked_gives k w (Ok p) h g = (k, same_in k.sets, record { state = h.state; work = g.1 }, g.0)
  worked_gives k w (Err e) h g = tt

  module _ (l : LabelParts) where
    action_gives : (k : Seen owner base) (m : Option ActionMethod) (g : Given) (w : Whole Work) → AreIn (in_values g.items) k.sets → AreIn (in_values g.values) k.sets
        → WholeHolds in_work k w → Gives (held owner base in_work) IsSeen k (action_call l m g w)
    action_gives k (Some m) g w i j h =
        worked_gives k w (method_call l m w.state.heap g w.work) h (methods_bring_none k.sets l w.state.heap w.work h.state.heap h.work m g i j)
    action_gives k None g w i j h = tt

    object_gives : (k : Seen owner base) (o : Object) (x : List ℕ) (g : Given) (w : Whole Work) → AreIn (in_values g.items) k.sets → AreIn (in_values g.values) k.sets
        → WholeHolds in_work k w → Gives (held owner base in_work) IsSeen k (object_method l o x g w)
    object_gives k object.Attr x g w i j h = tt
    object_gives k object.ContextActions x g w i j h = action_gives k (method_named x) g w i j h
    object_gives k _ x g w i j h = tt

    method_gives : (k : Seen owner base) (c : Leaf) (x : List ℕ) (g : Given) (w : Whole Work) → AreIn (in_values g.items) k.sets → AreIn (in_values g.values) k.sets
        → WholeHolds in_work k w → Gives (held owner base in_work) IsSeen k (call_method l c x g w)
    method_gives k (plain.Object o) x g w i j h = object_gives k o x g w i j h
    method_gives k _ x g w i j h = tt

    pub place_keeps : (t : Target) (ds : List Dependency) → AreIn (in_dependencies ds) base → PlaceKeeps owner base in_work (implementation_place l t ds)
    place_keeps t ds known = record {
      call = λ k c g w i j h. tt;
      method = method_gives;
      field = λ k o x w v h e.
          through (in_value v) base k.sets (given_is (HasValue base) (field walked t ds l o x) v (fields_are_in base t ds known l o x) e) k.given;
      item = λ k n a w v h e.
          through (in_value v) base k.sets (given_is (HasValue base) (item ds w.state.heap n a) v (items_are_in base ds known w.state.heap n a) e) k.given;
    }

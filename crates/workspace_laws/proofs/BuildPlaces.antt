-- What a `BUILD` file declares has no depsets, so its place keeps what holds.
use Rattle.std.proofs.Common.{ℕ, List, [], Option, Some, None, Result, Ok, Err}
use Rattle.std.specs.Prelude.{◌||◌, codes}
use Rattle.ticks.specs.Ticking.{Ticking, then_on}
use Rattle.leaves.specs.declared.leaf.AttributeKind.{AttributeKind}
use Rattle.leaves.specs.declared.leaf.BuiltIn.{BuiltIn}
use Rattle.leaves.specs.declared.leaf.BuiltIn.TheVariants as built_in
use Rattle.leaves.specs.declared.leaf.Leaf.{Leaf}
use Rattle.leaves.specs.declared.leaf.Leaf.TheVariants as plain
use Rattle.leaves.specs.declared.leaf.MadeId.{MadeId}
use Rattle.ticks.specs.declared.ticks.Kind.{Kind}
use Rattle.ticks.specs.declared.ticks.Kind.TheVariants as fault
use Rattle.values.specs.declared.value.Value.{Value}
use Rattle.operations.specs.Arguments.{Given}
use Rattle.operations.specs.States.{Doing}
use Rattle.operations.specs.declared.state.State.{State}
use Rattle.language.specs.declared.whole.Whole.{Whole}
use Rattle.workspace.specs.Labels.{LabelParts}
use Rattle.targets.specs.RuleCalls.{given_as, fits, label_from, each_of, value_for, repeats_given, has_declared, frozen_given, after_freezing, typed_call, declares}
use Rattle.targets.specs.declared.attributes.AttributeValue.{AttributeValue}
use Rattle.targets.specs.declared.attributes.Rule.{Rule}
use Rattle.targets.specs.declared.target.Target.{Target}
use Rattle.rule_calls.specs.Called.{then_declared}
use Rattle.rule_calls.specs.Packages.{Declared}
use Rattle.file_places.specs.BuildPlace.{giving_none, rule_called, refused_call, refused_method, build_call, build_place}
use Rattle.file_places.specs.Methods.{declared_kind}
use Rattle.keeping.specs.Kept.{Gives}
use Rattle.one_tree.specs.Found.{Set}
use Rattle.holding.specs.Held.{Seen, IsSeen, StateHolds, After, WholeHolds, held}
use Rattle.holding.specs.Places.{PlaceKeeps}
use Rattle.holding.proofs.Steps.{all_given, either, none_in, whatever, with_ticks_after}

module _ (owner : List ℕ) (base : List Set) where
  abbrev nothing : Declared → List Set
  nothing d = []

  abbrev Keeps : Seen owner base → Result (Value × Whole Declared) Kind → Type 0
  Keeps k r = Gives (held owner base nothing) IsSeen k r

  -- ---- a target is declared

  module _ (k : Seen owner base) (s : State) (holds : StateHolds k s) where
    frozen_keeps : (t : Target) (r : Rule) (g : Given) → After whatever k (after_freezing t r g s)
    frozen_keeps t r g =
        let x : Ticking Target = then_on (frozen_given r g s.heap s.ticks) (λ u d. Ok (t, d)) in
        with_ticks_after whatever k s x holds (all_given (λ p. whatever k p.0) x (λ p. tt))

    typed_keeps : (r : Rule) (ts : List Target) (g : Given) (l : Option LabelParts) (vs : Option (List AttributeValue))
        → After whatever k (typed_call r ts g l vs s)
    typed_keeps r ts g (Some l) (Some vs) =
        let t : Target = record { label = l; rule = r; values = vs } in
        either (After whatever k) (repeats_given r.attributes g vs || has_declared ts l) (Err fault.Key) (after_freezing t r g s) tt
        (frozen_keeps t r g)
    typed_keeps r ts g (Some l) None = tt
    typed_keeps r ts g None vs = tt

    declares_keeps : («package» : List ℕ) (ts : List Target) (r : Rule) (g : Given) → After whatever k (declares «package» ts r g s)
    declares_keeps «package» ts r g =
        let l = label_from s.heap «package» (given_as g (codes "name")) in
        let vs = each_of (value_for s.heap «package» g) r.attributes in
        either (After whatever k) (fits r g) (typed_call r ts g l vs s) (Err fault.Arity) (typed_keeps r ts g l vs) tt

  -- ---- a call

  declared_keeps : (k : Seen owner base) (d : Declared) (r : Doing Target) → After whatever k r → Keeps k (giving_none (then_declared d r))
  declared_keeps k d (Ok p) h = (h.0, h.1, record { state = h.2; work = none_in h.0.sets }, none_in h.0.sets)
  declared_keeps k d (Err e) h = tt

  rule_keeps : (o : Option Rule) (g : Given) (k : Seen owner base) (w : Whole Declared) → WholeHolds nothing k w → Keeps k (rule_called o g w)
  rule_keeps (Some r) g k w h =
      declared_keeps k w.work (declares w.work.«package» w.work.targets r g w.state)
      (declares_keeps k w.state h.state w.work.«package» w.work.targets r g)
  rule_keeps None g k w h = tt

  refused_keeps : (b : BuiltIn) (g : Given) (k : Seen owner base) (w : Whole Declared) → Keeps k (refused_call b g w)
  refused_keeps built_in.Provider g k w = tt
  refused_keeps built_in.Rule g k w = tt
  refused_keeps _ g k w = tt

  method_keeps : (o : Option AttributeKind) (g : Given) (k : Seen owner base) (w : Whole Declared) → Keeps k (refused_method o g w)
  method_keeps (Some a) g k w = tt
  method_keeps None g k w = tt

  module _ (rules : MadeId → Option Rule) where
    call_keeps : (l : Leaf) (g : Given) (k : Seen owner base) (w : Whole Declared) → WholeHolds nothing k w → Keeps k (build_call rules l g w)
    call_keeps (plain.BuiltIn b) g k w h = refused_keeps b g k w
    call_keeps (plain.Rule r) g k w h = rule_keeps (rules r.id) g k w h
    call_keeps _ g k w h = tt

    pub build_keeps : PlaceKeeps owner base nothing (build_place rules)
    build_keeps = record {
      call = λ k l g w i j h. call_keeps l g k w h;
      method = λ k l x g w i j h. method_keeps (declared_kind l x) g k w;
      field = λ k l x w v h e. absurd (cc);
      item = λ k n a w v h e. absurd (cc);
    }

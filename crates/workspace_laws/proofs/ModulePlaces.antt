-- What a module declares has no depsets, so its place keeps what holds.
use Rattle.language.specs.Place.{with_state}
use Rattle.std.proofs.Common.{◌≡◌, ℕ, Bool, true, false, List, [], ◌∷◌, Option, Some, None, Result, Ok, Err, refl, sym, subst}
use Rattle.values.specs.Shape.{shape}
use Rattle.leaves.specs.declared.leaf.AttributeKind.{AttributeKind}
use Rattle.leaves.specs.declared.leaf.BuiltIn.{BuiltIn}
use Rattle.leaves.specs.declared.leaf.BuiltIn.TheVariants as built_in
use Rattle.leaves.specs.declared.leaf.FunctionRef.{FunctionRef}
use Rattle.leaves.specs.declared.leaf.Leaf.{Leaf}
use Rattle.leaves.specs.declared.leaf.Leaf.TheVariants as plain
use Rattle.ticks.specs.declared.ticks.Kind.{Kind}
use Rattle.values.specs.declared.value.Value.{Value}
use Rattle.operations.specs.Arguments.{Given, Bound, bound}
use Rattle.operations.specs.States.{then_give}
use Rattle.operations.specs.declared.state.State.{State}
use Rattle.language.specs.declared.whole.Whole.{Whole}
use Rattle.targets.specs.declared.attributes.Attribute.{Attribute}
use Rattle.targets.specs.declared.attributes.NamedAttribute.{NamedAttribute}
use Rattle.targets.specs.declared.declarations.Declarations.{Declarations}
use Rattle.declaring.specs.AttributeCalls.{attribute_parameters, attribute_in, attribute_declared, new_attribute}
use Rattle.declaring.specs.NewNames.{may_be_doc}
use Rattle.declaring.specs.ProviderCalls.{provider_parameters, fields_in, provider_declared, provider_with, new_provider}
use Rattle.declaring.specs.RuleMaking.{rule_parameters, function_in, attributes_in, rule_declared, rule_with, new_rule}
use Rattle.file_places.specs.Methods.{declared_kind}
use Rattle.file_places.specs.ModulePlace.{attribute_call, built_in_call, module_call, module_place}
use Rattle.keeping.specs.Kept.{Gives}
use Rattle.one_tree.specs.Found.{Set, in_value}
use Rattle.one_tree.specs.Sets.{AreIn}
use Rattle.holding.specs.Held.{Seen, IsSeen, WholeHolds, held}
use Rattle.holding.specs.Places.{PlaceKeeps}

-- a value without depsets, if one is given
abbrev Bare : Result (Value × Declarations) Kind → Type 0
Bare (Ok p) = in_value p.0 ≡ []
Bare (Err k) = Unit {0}

-- ---- what is declared

attribute_bare : (s : State) (d : Declarations) (o : Option Attribute) → Bare (attribute_declared s d o)
attribute_bare s d (Some a) = refl
attribute_bare s d None = tt

new_attribute_bare : (k : AttributeKind) (g : Given) (s : State) (d : Declarations)
    → Bare (new_attribute k g s d)
new_attribute_bare k g s d = go (bound (attribute_parameters k) g)
  where
    go : (r : Result Bound Kind) → Bare (then_give r (λ os. attribute_declared s d (attribute_in s.heap k g)))
    go (Ok os) = attribute_bare s d (attribute_in s.heap k g)
    go (Err e) = tt

provider_bare : (s : State) (d : Declarations) (b : Bool) (o : Option (List (List ℕ)))
    → Bare (provider_declared s d b o)
provider_bare s d true (Some fields) = refl
provider_bare s d true None = tt
provider_bare s d false o = tt

provider_with_bare : (s : State) (d : Declarations) (r : Result Bound Kind) → Bare (provider_with s d r)
provider_with_bare s d (Ok (doc ∷ Some fields ∷ [])) = provider_bare s d (may_be_doc s.heap doc) (fields_in s.heap (shape s.heap fields))
provider_with_bare s d (Ok _) = tt
provider_with_bare s d (Err k) = tt

module _ (linked : List ℕ → ℕ → Option Attribute) where
  rule_bare : (s : State) (d : Declarations) (b : Bool) (f : Option FunctionRef) (o : Option (List NamedAttribute))
      → Bare (rule_declared linked s d b f o)
  rule_bare s d true (Some f) (Some named) = refl
  rule_bare s d true (Some f) None = tt
  rule_bare s d true None o = tt
  rule_bare s d false f o = tt

  rule_with_bare : (s : State) (d : Declarations) (r : Result Bound Kind) → Bare (rule_with linked s d r)
  rule_with_bare s d (Ok (Some f ∷ attrs ∷ doc ∷ [])) =
      rule_bare s d (may_be_doc s.heap doc) (function_in (shape s.heap f)) (attributes_in linked s d attrs)
  rule_with_bare s d (Ok _) = tt
  rule_with_bare s d (Err k) = tt

-- ---- so the place keeps what holds

module _ (owner : List ℕ) (base : List Set) where
  abbrev nothing : Declarations → List Set
  nothing d = []

  abbrev Keeps : Seen owner base → Result (Value × Whole Declarations) Kind → Type 0
  Keeps k r = Gives (held owner base nothing) IsSeen k r

  declared_keeps : (k : Seen owner base) (w : Whole Declarations) (r : Result (Value × Declarations) Kind)
      → WholeHolds nothing k w → Bare r → Keeps k (with_state w r)
  declared_keeps k w (Ok p) h b =
      let none : AreIn [] k.sets = λ d i. absurd i in
      (k, λ d i. i, record { state = h.state; work = none }, subst (λ ds. AreIn ds k.sets) (sym b) none)
  declared_keeps k w (Err e) h b = tt

  attribute_keeps : (o : Option AttributeKind) (g : Given) (k : Seen owner base) (w : Whole Declarations)
      → WholeHolds nothing k w → Keeps k (attribute_call o g w)
  attribute_keeps (Some a) g k w h = declared_keeps k w (new_attribute a g w.state w.work) h (new_attribute_bare a g w.state w.work)
  attribute_keeps None g k w h = tt

  module _ (linked : List ℕ → ℕ → Option Attribute) where
    built_in_keeps : (b : BuiltIn) (g : Given) (k : Seen owner base) (w : Whole Declarations)
        → WholeHolds nothing k w → Keeps k (built_in_call linked b g w)
    built_in_keeps built_in.Provider g k w h =
        declared_keeps k w (new_provider g w.state w.work) h (provider_with_bare w.state w.work (bound provider_parameters g))
    built_in_keeps built_in.Rule g k w h =
        declared_keeps k w (new_rule linked w.state w.work g) h (rule_with_bare linked w.state w.work (bound rule_parameters g))
    built_in_keeps _ g k w h = tt

    call_keeps : (l : Leaf) (g : Given) (k : Seen owner base) (w : Whole Declarations) → WholeHolds nothing k w
        → Keeps k (module_call linked l g w)
    call_keeps (plain.BuiltIn b) g k w h = built_in_keeps b g k w h
    call_keeps (plain.Rule r) g k w h = tt
    call_keeps _ g k w h = tt

    pub module_keeps : PlaceKeeps owner base nothing (module_place linked)
    module_keeps = record {
      call = λ k l g w i j h. call_keeps l g k w h;
      method = λ k l x g w i j h. attribute_keeps (declared_kind l x) g k w h;
      field = λ k l x w v h e. absurd (cc);
      item = λ k n a w v h e. absurd (cc);
    }

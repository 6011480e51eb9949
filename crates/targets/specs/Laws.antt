-- What the definitions of targets mean, in the field's words. (docs/PROFILE.md, "Targets"; this
-- project's own.)
use Rattle.std.specs.Prelude.{◌≡◌, ◌↔◌, ℕ, true, false, List, [], ◌∷◌, ◌++◌, map, length, Some}
use Rattle.std.specs.Prelude.{None, Result, Ok, Contains}
use Rattle.std.specs.List.{IsDistinct, AllByRecursion, list_any}
use Rattle.depsets.specs.Keys.{firsts}
use Rattle.actions.specs.declared.action.Action.{Action}
use Rattle.operations.specs.Arguments.{Given}
use Rattle.operations.specs.Instances.{default_info}
use Rattle.operations.specs.declared.state.State.{State}
use Rattle.values.specs.View.{FrozenTree}
use Rattle.workspace.specs.Labels.{LabelParts, is_label, same_label}
use Rattle.targets.specs.Attributes.{labels_in, labels_of}
use Rattle.targets.specs.RuleCalls.{has_declared, build_file, rule_call}
use Rattle.targets.specs.Resolving.{Package, declaring, target, named, dependencies}
use Rattle.targets.specs.Checks.{Dependency, offers, refused, dependency_of, first_refused}
use Rattle.targets.specs.Steps.{Implemented, Fault, are_instances, instances_in, with_default_info}
use Rattle.targets.specs.Steps.{makes, failed_labels, target_outcome}
use Rattle.targets.specs.declared.attributes.AttributeValue.{AttributeValue}
use Rattle.targets.specs.declared.attributes.NamedAttribute.{NamedAttribute}
use Rattle.targets.specs.declared.attributes.Rule.{Rule}
use Rattle.targets.specs.declared.outcome.Outcome.TheVariants.{Done}
use Rattle.targets.specs.declared.outcome.TargetFault.{TargetFault}
use Rattle.targets.specs.declared.target.Target.{Target}

-- ---- declared targets

-- A call that declares a target: its label is legal and in the package, and new there; it has the
-- rule, and a value for each of the rule's attributes; the heap and the depsets of the evaluation
-- are as they were.
pub record IsDeclared («package» : List ℕ) (before : List Target) (r : Rule) (s : State)
    (t : Target) (after : State) : Type 0 where
  pub here : t.label.«package» ≡ «package»
  pub legal : is_label t.label ≡ true
  pub new : has_declared before t.label ≡ false
  pub rule : t.rule ≡ r
  pub values : length t.values ≡ length r.attributes
  pub heap : after.heap ≡ s.heap
  pub depsets : after.depsets ≡ s.depsets

-- each call of a rule that has no fault, in a BUILD file, declares a target so
abbrev pub CallsDeclare : Type 0
CallsDeclare =
    («package» : List ℕ) (before : List Target) (r : Rule) (g : Given) (s : State) (t : Target)
    (after : State) →
    rule_call (build_file «package» before) r g s ≡ Ok (t, after)
    → IsDeclared «package» before r s t after

-- ---- dependencies

-- they are the labels that the target has for its attributes, and no others
abbrev pub AreTheLabels : Type 0
AreTheLabels =
    (t : Target) (l : LabelParts) → Contains (dependencies t) l ↔ Contains (labels_of t) l

-- none is there twice
abbrev pub AreDistinct : Type 0
AreDistinct = (t : Target) → IsDistinct same_label (dependencies t)

-- what comes later is put behind what came before
abbrev pub KeepOrder : Type 0
KeepOrder =
    (ls more : List LabelParts)
    → (behind : List LabelParts) × (firsts same_label (ls ++ more) ≡ firsts same_label ls ++ behind)

-- ---- what a label names

-- A label that names a target is that target's, and its package declares it.
pub record IsNamed (package_at : List ℕ → Package) (l : LabelParts) (t : Target) : Type 0 where
  pub its : t.label ≡ l
  pub legal : is_label l ≡ true
  pub declared : (ts : List Target) × (package_at l.«package» ≡ declaring ts) × Contains ts t

-- where a label names a target, that is so
abbrev pub TargetsHaveTheirLabels : Type 0
TargetsHaveTheirLabels =
    (paths : List (List ℕ)) (package_at : List ℕ → Package) (l : LabelParts) (t : Target) →
    named paths package_at l ≡ target t → IsNamed package_at l t

-- ---- checks

-- an attribute and a label that a target has for it
abbrev pub Asked : Type 0
Asked = NamedAttribute × LabelParts

-- all of a target, by attribute and then by value
abbrev pub asked : List NamedAttribute → List AttributeValue → List Asked
asked [] vs = []
asked (a ∷ rest) [] = []
asked (a ∷ rest) (v ∷ vs) = map (λ l. (a, l)) (labels_in v) ++ asked rest vs

-- the attribute doesn't refuse the dependency of the label
abbrev pub Passes : List Dependency → Asked → Type 0
Passes ds q = refused q.0 (dependency_of ds q.1) ≡ None

-- this is why one is refused, and all before it pass
pub record IsFirstRefused (ds : List Dependency) (qs : List Asked) (f : TargetFault) : Type 0 where
  pub before : List Asked
  pub one : Asked
  pub behind : List Asked
  pub whole : qs ≡ before ++ one ∷ behind
  pub passed : AllByRecursion (Passes ds) before
  pub refused : refused one.0 (dependency_of ds one.1) ≡ Some f

-- a fault that the checks give is that of the first dependency that is refused
abbrev pub TellsTheFirst : Type 0
TellsTheFirst =
    (ds : List Dependency) (named : List NamedAttribute) (vs : List AttributeValue)
    (f : TargetFault) →
    first_refused ds named vs ≡ Some f → IsFirstRefused ds (asked named vs) f

-- where the checks give no fault, no dependency is refused
abbrev pub TellsNone : Type 0
TellsNone = (ds : List Dependency) (named : List NamedAttribute) (vs : List AttributeValue) →
    first_refused ds named vs ≡ None → AllByRecursion (Passes ds) (asked named vs)

-- ---- targets that are done

-- Nothing that a target depends on failed or was refused; its implementation gave these actions,
-- which make each File that it declared; its providers are the instances that it returned, behind a
-- `DefaultInfo` where none was among them, and no two are of one provider.
pub record IsWhole (t : Target) (ds : List Dependency) (r : Result Implemented Fault)
    (l : LabelParts) (ts : List FrozenTree) (actions : List Action) : Type 0 where
  pub none_failed : failed_labels ds ≡ []
  pub none_refused : AllByRecursion (Passes ds) (asked t.rule.attributes t.values)
  pub given : (i : Implemented) × (r ≡ Ok i) × (actions ≡ i.actions)
      × AllByRecursion (λ f. list_any (makes f.path) i.actions ≡ true) i.files
      × ((returned : List FrozenTree) × (instances_in i.result ≡ Some returned)
      × (ts ≡ with_default_info l returned))
  pub instances : are_instances ts ≡ true
  pub default_info : offers ts default_info ≡ true

-- a target that is done is whole, whatever the implementations give
abbrev pub DoneIsWhole : Type 0
DoneIsWhole =
    (implement : LabelParts → Target → List Dependency → Result Implemented Fault) (l : LabelParts)
    (t : Target) (ds : List Dependency) (ts : List FrozenTree) (actions : List Action) →
    target_outcome implement l t ds ≡ Done ts actions → IsWhole t ds (implement l t ds) l ts actions

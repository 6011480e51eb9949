-- The outcome of a label from the outcomes of its dependencies (Bazel documentation, "Rules",
-- "Implementation function"; the order of the faults is this project's own; docs/PROFILE.md,
-- "Outcomes").
use Rattle.std.specs.Prelude.{ℕ, Bool, true, false, not, ◌&&◌, List, [], ◌∷◌, map, Option, Some}
use Rattle.std.specs.Prelude.{None, Result, Ok, Err, if◌then◌else◌, bytes_eq}
use Rattle.std.specs.List.{list_any, filter}
use Rattle.std.specs.Prelude.{zip}
use Rattle.depsets.specs.declared.element.FileRef.{FileRef}
use Rattle.values.specs.Tree.{leaf, branch, list, instance, tree_list, slots}
use Rattle.values.specs.View.{FrozenTree, FrozenBranch}
use Rattle.leaves.specs.declared.leaf.Leaf.TheVariants as plain
use Rattle.leaves.specs.declared.leaf.Provider.{Provider}
use Rattle.ticks.specs.declared.ticks.Kind.{Kind}
use Rattle.actions.specs.declared.action.Action.{Action}
use Rattle.operations.specs.Instances.{default_info}
use Rattle.workspace.specs.Labels.{LabelParts, label_text, label_path}
use Rattle.targets.specs.Resolving.{Named, target, source_file, failed_package, nothing}
use Rattle.targets.specs.Resolving.{dependencies}
use Rattle.targets.specs.Checks.{Dependency, provider_of, offers, first_refused}
use Rattle.targets.specs.Sources.{first_depset}
use Rattle.targets.specs.declared.outcome.Outcome.{Outcome}
use Rattle.targets.specs.declared.outcome.Outcome.TheVariants.{Source, Done, Failed}
use Rattle.targets.specs.declared.outcome.TargetFault.{TargetFault}
use Rattle.targets.specs.declared.outcome.TargetFault.TheVariants as fault
use Rattle.targets.specs.declared.target.Target.{Target}

-- What the call of an implementation gives, its result being frozen: the result, the Files that it
-- declared and the actions that it registered, both in order.
pub record Implemented : Type 0 where
  pub result : FrozenTree
  pub files : List FileRef
  pub actions : List Action

-- or the fault: its kind, and the path and the line where it stands
pub record Fault : Type 0 where
  pub kind : Kind
  pub path : List ℕ
  pub line : ℕ

-- ---- `returned`

-- whether a value is an instance, of a provider that none of these is of
abbrev pub is_new_instance : List FrozenTree → Option Provider → Bool
is_new_instance ts None = false
is_new_instance ts (Some p) = not (offers ts p)

-- whether each is an instance, and no two are of one provider
abbrev pub are_instances : List FrozenTree → Bool
are_instances [] = true
are_instances (t ∷ ts) = is_new_instance ts (provider_of t) && are_instances ts

-- the list, if that is so
abbrev pub if_instances : List FrozenTree → Option (List FrozenTree)
if_instances ts = if are_instances ts then Some ts else None

-- the instances that a list has, if that is so of it; a tuple or a dict has none
abbrev pub branch_instances : FrozenBranch → Option (List FrozenTree)
branch_instances (list ts) = if_instances (tree_list ts)
branch_instances _ = None

-- the instances that an implementation returns: None, which is none, or a list of them
abbrev pub instances_in : FrozenTree → Option (List FrozenTree)
instances_in (leaf plain.None) = Some []
instances_in (branch b) = branch_instances b
instances_in _ = None

-- what a `DefaultInfo` is that isn't returned
abbrev pub missing_default_info : LabelParts → FrozenTree
missing_default_info l =
    branch (instance default_info
    (slots (Some (leaf (plain.Depset (first_depset (label_text l) []))) ∷ [])))

-- a missing `DefaultInfo` is put first
abbrev pub with_default_info : LabelParts → List FrozenTree → List FrozenTree
with_default_info l ts = if offers ts default_info then ts else missing_default_info l ∷ ts

-- ---- `no action`

-- whether a File of this path is among the outputs of an action
abbrev pub makes : List ℕ → Action → Bool
makes path a = list_any (λ f. bytes_eq path f.path) a.outputs

-- the path of the first declared File that no action makes
abbrev pub first_unmade : List Action → List FileRef → Option (List ℕ)
first_unmade actions [] = None
first_unmade actions (f ∷ fs) =
    if list_any (makes f.path) actions then first_unmade actions fs else Some f.path

-- ---- a target whose dependencies are fit

-- `no action` where a declared File isn't made, and else the providers and the actions
abbrev pub made_whole : LabelParts → List FrozenTree → List Action → Option (List ℕ) → Outcome
made_whole l ts actions (Some path) = Failed (fault.NoAction path)
made_whole l ts actions None = Done (with_default_info l ts) actions

-- `returned` where the result is neither None nor a list of instances
abbrev pub with_instances : LabelParts → Implemented → Option (List FrozenTree) → Outcome
with_instances l i None = Failed fault.Returned
with_instances l i (Some ts) = made_whole l ts i.actions (first_unmade i.actions i.files)

-- what becomes of a target whose implementation gave this: the first of `implementation`,
-- `returned` and `no action`, or its providers and actions
abbrev pub finished : LabelParts → Result Implemented Fault → Outcome
finished l (Err f) = Failed (fault.Implementation f.kind f.path f.line)
finished l (Ok i) = with_instances l i (instances_in i.result)

-- ---- a target

-- whether an outcome is a failure
abbrev pub is_failed : Outcome → Bool
is_failed (Failed f) = true
is_failed _ = false

-- the labels of the dependencies that failed, in their order
abbrev pub failed_labels : List Dependency → List LabelParts
failed_labels ds = map (λ d. d.0) (filter (λ d. is_failed d.1) ds)

-- `implement` is what a call of the function of a target's rule comes to, with dependencies that
-- have these outcomes.
module _ (implement : LabelParts → Target → List Dependency → Result Implemented Fault) where
  -- the fault of a dependency that is refused, and else what the implementation comes to
  abbrev pub unless_refused : LabelParts → Target → List Dependency → Option TargetFault → Outcome
  unless_refused l t ds (Some f) = Failed f
  unless_refused l t ds None = finished l (implement l t ds)

  -- the first of `dependency failed`, with all that failed, a dependency that is refused, and what
  -- the implementation comes to
  abbrev pub analysed : LabelParts → Target → List Dependency → List LabelParts → Outcome
  analysed l t ds (f ∷ fs) = Failed (fault.DependencyFailed (f ∷ fs))
  analysed l t ds [] = unless_refused l t ds (first_refused ds t.rule.attributes t.values)

  -- the outcome of a target, from its dependencies with their outcomes
  abbrev pub target_outcome : LabelParts → Target → List Dependency → Outcome
  target_outcome l t ds = analysed l t ds (failed_labels ds)

  -- The outcome of what a label names, from the outcomes of its dependencies in their order. That a
  -- cyclic target fails with `cycle` is told by the graph.
  abbrev pub step : LabelParts → Named → List Outcome → Outcome
  step l nothing os = Failed fault.NoSuchTarget
  step l failed_package os = Failed fault.PackageFailed
  step l source_file os = Source (record { path = label_path l; owner = label_text l })
  step l (target t) os = target_outcome l t (zip (dependencies t) os)

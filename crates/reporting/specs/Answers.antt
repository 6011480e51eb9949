-- What a report says as a whole (docs/REPORT.md, "The report"; this project's own): the files that
-- failed, what becomes of each label, an action that targets share being told once, and the paths
-- that conflict.
use Rattle.std.specs.Prelude.{ℕ, Bool, true, false, ◌||◌, List, [], ◌∷◌, ◌++◌, map}
use Rattle.std.specs.List.{flat_map, list_any}
use Rattle.lexer.specs.declared.fault.FaultKind.{FaultKind}
use Rattle.depsets.specs.Own.{Own}
use Rattle.depsets.specs.Rose.{Rose}
use Rattle.depsets.specs.declared.element.Element.{Element}
use Rattle.ticks.specs.declared.ticks.Kind.{Kind}
use Rattle.claims.specs.Conflicts.{conflicts_of}
use Rattle.actions.specs.declared.action.Action.{Action}
use Rattle.claims.specs.Owned.{Owned}
use Rattle.claims.specs.Telling.{telling}
use Rattle.workspace.specs.Labels.{LabelParts, label_text}
use Rattle.modules.specs.declared.sorting.FileFault.{FileFault}
use Rattle.targets.specs.Steps.{is_failed}
use Rattle.targets.specs.declared.outcome.Outcome.{Outcome}
use Rattle.targets.specs.declared.outcome.Outcome.TheVariants.{Source, Done, Failed}
use Rattle.reporting.specs.Lines.{load_fault_line, action_line, outcome_text, conflict_line}

-- a label, and what becomes of it
pub record Node : Type 0 where
  pub label : LabelParts
  pub outcome : Outcome

-- the actions of what becomes of a label: a source file and a target that failed have none
abbrev pub actions_of : Outcome → List Action
actions_of (Source f) = []
actions_of (Done providers actions) = actions
actions_of (Failed f) = []

-- an action, with the text of its target's label
abbrev pub owned_by : List ℕ → Action → Owned
owned_by text a = record { label = text; action = a }

-- the actions of a label
abbrev pub node_actions : Node → List Owned
node_actions n = map (owned_by (label_text n.label)) (actions_of n.outcome)

-- those of all labels, in the order of the report
abbrev pub owned_actions : List Node → List Owned
owned_actions nodes = flat_map node_actions nodes

-- the line of a file that failed
abbrev pub file_line : FileFault FaultKind Kind → List ℕ
file_line f = load_fault_line f.path f.fault

-- whether there is anything in a list
abbrev pub has_some : {A : Type 0} → List A → Bool
has_some [] = false
has_some (x ∷ xs) = true

-- with the listing of depsets by which the report is told
module _ (listing : Rose Own → List Element) where
  -- the line of an action, if it has one here, by how it is told among the actions of all labels
  abbrev pub told_line : List Owned → Owned → List ℕ
  told_line all o = action_line listing (telling listing all o) o.action

  -- the lines of a label, where these are the actions of all labels
  abbrev pub node_text : List Owned → Node → List ℕ
  node_text all n =
      outcome_text listing (flat_map (told_line all) (node_actions n)) n.label n.outcome

  -- The bytes: of the files that failed, of each label, and of the conflicts of the actions of
  -- these labels.
  abbrev pub report_text : List (FileFault FaultKind Kind) → List Node → List ℕ
  report_text faults nodes =
      let all = owned_actions nodes in
      flat_map file_line faults
      ++ (flat_map (node_text all) nodes ++ flat_map conflict_line (conflicts_of listing all))

  -- whether it tells of a file that failed, a target that failed or a conflict
  abbrev pub is_loud : List (FileFault FaultKind Kind) → List Node → Bool
  is_loud faults nodes =
      has_some faults
      || (list_any (λ n. is_failed n.outcome) nodes
      || has_some (conflicts_of listing (owned_actions nodes)))

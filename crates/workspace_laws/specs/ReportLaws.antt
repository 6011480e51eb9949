-- What a report has to do with the ids of depsets: where an id has one tree in all that is told,
-- the text is that of the plain listings. (Bazel's documentation of depsets has no ids; they are
-- this project's own.)
use Rattle.std.specs.Prelude.{◌≡◌, List, All}
use Rattle.std.specs.List.{flat_map}
use Rattle.lexer.specs.declared.fault.FaultKind.{FaultKind}
use Rattle.depsets.specs.Listed.{walked, flat}
use Rattle.ticks.specs.declared.ticks.Kind.{Kind}
use Rattle.modules.specs.declared.sorting.FileFault.{FileFault}
use Rattle.claims.specs.Conflicts.{conflicts_of}
use Rattle.one_tree.specs.Found.{Set}
use Rattle.one_tree.specs.Sets.{IsOneTree}
use Rattle.outcomes.specs.Found.{in_target}
use Rattle.outcomes.specs.Workspaces.{Workspace, outcome_of, ImplementsWell, IsSound}
use Rattle.reporting.specs.Answers.{Node, is_loud, owned_actions, report_text}

-- the depsets that stand in what becomes of labels, each with all below it
abbrev pub in_nodes : List Node → List Set
in_nodes nodes = flat_map (λ n. in_target n.outcome) nodes

-- The text by the listing that skips ids is that by the plain one, of shared actions too; and so
-- are the conflicts, and whether it is loud.
pub record IsToldPlainly (faults : List (FileFault FaultKind Kind))
    (nodes : List Node) : Type 0 where
  pub text : report_text walked faults nodes ≡ report_text flat faults nodes
  pub conflicts : conflicts_of walked (owned_actions nodes)
      ≡ conflicts_of flat (owned_actions nodes)
  pub loud : is_loud walked faults nodes ≡ is_loud flat faults nodes

-- A report is told so wherever any two depsets with one id are the same, of all that stand in
-- providers and in inputs of actions.
abbrev pub TextsArePlain : Type 0
TextsArePlain =
    (faults : List (FileFault FaultKind Kind)) (nodes : List Node) → IsOneTree (in_nodes nodes)
    → IsToldPlainly faults nodes

-- And so it is of labels of a workspace, whichever they are, each with what becomes of it.
abbrev pub WorkspacesAreToldPlainly : Type 0
WorkspacesAreToldPlainly =
    (w : Workspace) (faults : List (FileFault FaultKind Kind)) (nodes : List Node) → IsSound w
    → ImplementsWell w
    → All (λ n. n.outcome ≡ outcome_of w n.label) nodes → IsToldPlainly faults nodes

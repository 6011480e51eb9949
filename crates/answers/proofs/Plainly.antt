-- What a report tells, it tells by plain listings: in what becomes of labels of a workspace an id has one tree.
use Rattle.std.proofs.Common.{◌≡◌, ℕ, true, List, All, subst}
use Rattle.depsets.specs.Flat.{Among}
use Rattle.lexer.specs.declared.fault.FaultKind.{FaultKind}
use Rattle.ticks.specs.declared.ticks.Kind.{Kind}
use Rattle.coherence.specs.Together.{AllCoherent}
use Rattle.workspace.specs.Labels.{is_label, label_text}
use Rattle.workspace.specs.Workspaces.{IsWorkspace, Pair, paths_of}
use Rattle.modules.specs.declared.sorting.FileFault.{FileFault}
use Rattle.outcomes.specs.Found.{id_of, owner_of, has_depset}
use Rattle.outcomes.specs.Workspaces.{outcome_of, graph}
use Rattle.outcomes.proofs.Together.{outcomes_together}
use Rattle.reporting.specs.Answers.{Node}
use Rattle.workspace_laws.specs.ReportLaws.{IsToldPlainly}
use Rattle.workspace_laws.proofs.Reports.{workspaces_are_told_plainly}
use Rattle.loader.specs.Loaded.{AreFilesOf}
use Rattle.workspace_laws.specs.Found.{in_modules}
use Rattle.workspace_laws.specs.Workspaces.{plain_workspace, evaluated}
use Rattle.workspace_laws.proofs.Files.{known_same}
use Rattle.workspace_laws.proofs.Outcomes.{dependencies_same, outcomes_same}
use Rattle.workspace_laws.proofs.Sound.{is_sound, implements_well}
use Rattle.answers.specs.Laws.{WorkspacesAreCoherent}

module _ (workspace files : List Pair) (limit : ℕ) (legal : IsWorkspace workspace) (are : AreFilesOf workspace files) where
  pub told_plainly : (faults : List (FileFault FaultKind Kind)) (nodes : List Node)
      → All (λ n. n.outcome ≡ outcome_of (evaluated files limit) n.label) nodes
      → IsToldPlainly faults nodes
  told_plainly faults nodes is =
      workspaces_are_told_plainly (evaluated files limit) faults nodes (is_sound files limit workspace legal are) (implements_well files limit) is

  graph_same : graph (evaluated files limit) ≡ graph (plain_workspace files limit)
  graph_same = λ i. record {
    deps = dependencies_same files limit i;
    out = outcomes_same files limit workspace legal are i;
    has = has_depset;
    id = id_of;
    owner = owner_of;
    name = label_text;
    named = λ l. is_label l ≡ true;
    base = λ d. Among d (in_modules (known_same files limit i) (paths_of files));
  }

pub workspaces_are_coherent : WorkspacesAreCoherent
workspaces_are_coherent workspace files limit legal are =
    subst AllCoherent (graph_same workspace files limit legal are)
    (outcomes_together (evaluated files limit) (is_sound files limit workspace legal are) (implements_well files limit))

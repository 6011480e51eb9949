-- What a report tells is the answer.
use Rattle.std.proofs.Common.{◌≡◌, ◌∙◌, ◌↔◌, ℕ, ◌≤◌, List, length, map, All, Contains, Result, Ok, Err, IfOk, sym, ap, subst, arith}
use Rattle.depsets.specs.Listed.{walked}
use Rattle.lexer.specs.declared.fault.FaultKind.{FaultKind}
use Rattle.ticks.specs.declared.ticks.Kind.{Kind}
use Rattle.modules.specs.declared.sorting.FileFault.{FileFault}
use Rattle.reporting.specs.declared.made.Report.{Report}
use Rattle.reporting.specs.Reported.{report_bytes}
use Rattle.loader.specs.Loaded.{AreFilesOf}
use Rattle.answers.specs.Reports.{IsTooMany, Reports, node_limit}
use Rattle.std.proofs.lemmas.List.{length-map}
use Rattle.std.proofs.lemmas.List.Elements.{All-map}
use Rattle.actions.specs.Ascending.{AreAscending}
use Rattle.workspace.specs.Labels.{LabelParts, label_text, same_label}
use Rattle.workspace.specs.Workspaces.{IsWorkspace, Pair}
use Rattle.graph.specs.Graphs.{GraphView, IsGraphOf}
use Rattle.graph.specs.Reached.{IsReached, TooManyReached}
use Rattle.targets.specs.declared.outcome.Outcome.{Outcome}
use Rattle.outcomes.specs.Workspaces.{dependencies, outcome_of}
use Rattle.pool.specs.Gathered.{GatheredView}
use Rattle.reporting.specs.Answers.{Node, is_loud, report_text}
use Rattle.loader.specs.Files.{faults}
use Rattle.workspace_laws.specs.Workspaces.{evaluated}
use Rattle.workspace_laws.proofs.Files.{faults_same}
use Rattle.workspace_laws.proofs.Outcomes.{dependencies_same, outcomes_same}
use Rattle.answers.specs.Answers.{Answer, IsAnswerOf}
use Rattle.label_order.specs.Ordered.{Entry, AreInOrder}
use Rattle.answers.specs.Nodes.{AreOutcomesOf, node_of, nodes_of}
use Rattle.label_order.proofs.Ordered.{map_twice}
use Rattle.answers.proofs.Plainly.{told_plainly}

module _ (files : List Pair) (limit : ℕ) (asked : List LabelParts) (g : GraphView) (r : GatheredView Outcome) (es : List Entry)
    (is : IsGraphOf (dependencies (evaluated files limit)) asked g) (order : AreInOrder g.labels es) (found : AreOutcomesOf (evaluated files limit) g.labels r) where
  labels_told : map (λ (n : Node). n.label) (nodes_of r es) ≡ map (λ (e : Entry). e.0) es
  labels_told = map_twice (node_of r) (λ (n : Node). n.label) es

  texts_told : map (λ (n : Node). label_text n.label) (nodes_of r es) ≡ map (λ (e : Entry). label_text e.0) es
  texts_told = map_twice (node_of r) (λ (n : Node). label_text n.label) es

  labels_are : (l : LabelParts) → Contains (map (λ (n : Node). n.label) (nodes_of r es)) l ↔ IsReached (dependencies (evaluated files limit)) asked l
  labels_are l = (
    λ h. (is.nodes.all l).0 ((order.all l).0 (subst (λ ls. Contains ls l) labels_told h)),
    λ h. subst (λ ls. Contains ls l) (sym labels_told) ((order.all l).1 ((is.nodes.all l).1 h)),
  )

  outcomes_are : All (λ (n : Node). n.outcome ≡ outcome_of (evaluated files limit) n.label) (nodes_of r es)
  outcomes_are =
      All-map (λ (n : Node). n.outcome ≡ outcome_of (evaluated files limit) n.label) (node_of r) es
      (λ k d low. let at = order.numbered k d low in found _ at.0 ∙ ap (outcome_of (evaluated files limit)) at.1)

  few_nodes : length g.labels ≤ node_limit → length (nodes_of r es) ≤ node_limit
  few_nodes few =
      let size = order.size in
      let nodes : length (nodes_of r es) ≡ length es = length-map es (node_of r) in
      omega (arith, few, size, nodes)

  module _ (workspace : List Pair) (legal : IsWorkspace workspace) (are : AreFilesOf workspace files) where
    abbrev answer : Answer
    answer = record { faults = faults files limit; nodes = nodes_of r es }

    -- what was found is the answer by plain listings
    answers : IsAnswerOf files asked limit answer
    answers = record {
      faults = faults_same files limit;
      reached =
          subst (λ (deps : LabelParts → List LabelParts). (l : LabelParts) → Contains (map (λ (n : Node). n.label) (nodes_of r es)) l ↔ IsReached deps asked l)
          (dependencies_same files limit) labels_are;
      ordered = subst AreAscending (sym texts_told) order.ordered;
      outcomes =
          subst (λ (out : LabelParts → Outcome). All (λ (n : Node). n.outcome ≡ out n.label) (nodes_of r es))
          (outcomes_same files limit workspace legal are) outcomes_are;
    }

    pub reports : {E : Type 0} → length g.labels ≤ node_limit → (fs : List (FileFault FaultKind Kind)) (ns : List Node) (result : Result Report E) → fs ≡ faults files limit → ns ≡ nodes_of r es
        → IfOk result (λ m. report_bytes m ≡ report_text walked fs ns) → IfOk result (λ m. m.loud ≡ is_loud walked fs ns) → IfOk result (Reports workspace asked limit)
    reports few fs ns (Err e) ef en t l = t
    reports few fs ns (Ok m) ef en t l = record {
      answer = answer;
      answers = record { files = files; are_files = are; answers = answers };
      few = few_nodes few;
      told =
          t ∙ ap (λ f. report_text walked f ns) ef ∙ ap (report_text walked (faults files limit)) en
          ∙ (told_plainly workspace files limit legal are (faults files limit) (nodes_of r es) outcomes_are).text;
      loud =
          l ∙ ap (λ f. is_loud walked f ns) ef ∙ ap (is_loud walked (faults files limit)) en
          ∙ (told_plainly workspace files limit legal are (faults files limit) (nodes_of r es) outcomes_are).loud;
    }

-- too many labels are reached by plain listings, where they are as the code lists
pub too_many : (workspace files : List Pair) (limit : ℕ) (asked : List LabelParts) → AreFilesOf workspace files
    → TooManyReached (dependencies (evaluated files limit)) asked same_label node_limit → IsTooMany workspace asked limit
too_many workspace files limit asked are many = record {
  files = files;
  are_files = are;
  many =
      subst (λ (deps : LabelParts → List LabelParts). TooManyReached deps asked same_label node_limit) (dependencies_same files limit) many;
}

-- What a run finds of the nodes of a graph is what becomes of their labels.
use Rattle.std.proofs.Common.{◌≡◌, ◌∙◌, ap, ℕ, List, length, arith}
use Rattle.std.specs.Prelude.{nat_eq}
use Rattle.std.specs.List.{range_with_len}
use Rattle.std.specs.Cmp.{unsigned_Decides}
use Rattle.workspace.specs.Labels.{LabelParts}
use Rattle.edges.specs.Rows.{row}
use Rattle.edges.specs.Outcomes.{AreLawful}
use Rattle.edges.specs.Outcomes as by_edges
use Rattle.edges.proofs.Outcomes.{outcome_keeps}
use Rattle.edges.proofs.Lists.{finite, few}
use Rattle.graph.specs.Same.{label_at}
use Rattle.graph.specs.Graphs.{GraphView, IsGraphOf}
use Rattle.graph.proofs.Outcomes.{of_labels}
use Rattle.targets.specs.declared.outcome.Outcome.{Outcome}
use Rattle.targets.specs.declared.outcome.Outcome.TheVariants.{Failed}
use Rattle.targets.specs.declared.outcome.TargetFault.TheVariants.{Cycle}
use Rattle.outcomes.specs.Workspaces.{Workspace, AllAreListed, dependencies, cycle_of, step_of, outcome_of}
use Rattle.outcomes.proofs.Together.{are_outcomes}
use Rattle.pool.specs.Gathered.{GatheredView, HasOutcomes}
use Rattle.answers.specs.Nodes.{AreOutcomesOf}

lawful : (deps : List (List ℕ)) (cycle : ℕ → Outcome) (step : ℕ → List Outcome → Outcome) → AreLawful deps cycle step
lawful deps cycle step = outcome_keeps (row deps) nat_eq unsigned_Decides (range_with_len 0 (length deps)) (length deps) (few deps) (finite deps) cycle step

pub outcomes_found : (w : Workspace) (asked : List LabelParts) (g : GraphView) (r : GatheredView Outcome) → AllAreListed w → IsGraphOf (dependencies w) asked g
    → HasOutcomes (Failed Cycle) (λ n us. step_of w (label_at g.labels n) us) (λ n us. Unit {0}) g.edges.deps r → AreOutcomesOf w g.labels r
outcomes_found w asked g r listed is has n low =
    let size = is.size in
    has (λ t apart. tt) n (omega (arith, low, size))
    ∙ of_labels (dependencies w) asked g (cycle_of w) (step_of w) is (outcome_of w)
    (by_edges.outcome_of g.edges.deps (λ m. cycle_of w (label_at g.labels m)) (λ m. step_of w (label_at g.labels m)))
    (are_outcomes w listed)
    (lawful g.edges.deps (λ m. cycle_of w (label_at g.labels m)) (λ m. step_of w (label_at g.labels m))) n low

-- what becomes of a label is what becomes of the same one
pub step_at : (w : Workspace) (o : Outcome) (l m : LabelParts) (os : List Outcome) → l ≡ m → o ≡ step_of w l os → o ≡ step_of w m os
step_at w o l m os same is = is ∙ ap (λ x. step_of w x os) same

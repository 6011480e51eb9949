-- What holds of all outcomes of a workspace. (Bazel documentation, "Dependencies"; coherence is
-- this project's own.)
use Rattle.std.specs.Prelude.{◌≡◌, true, map}
use Rattle.edges.specs.Outcomes.{AreOutcomes}
use Rattle.coherence.specs.Together.{AllCoherent, Fits}
use Rattle.workspace.specs.Labels.{LabelParts, is_label}
use Rattle.outcomes.specs.Workspaces.{Workspace, dependencies, cycle_of, step_of, outcome_of, graph}
use Rattle.outcomes.specs.Workspaces.{AllAreListed, ImplementsWell, IsSound}

-- a cyclic label's outcome says so, and any other's is the step over those of its dependencies
abbrev pub AreByDependencies : Type 0
AreByDependencies =
    (w : Workspace) → AllAreListed w
    → AreOutcomes (dependencies w) (cycle_of w) (step_of w) (outcome_of w)

-- all modules and all outcomes are coherent together, and what a label is given is fresh for it
abbrev pub AreCoherentTogether : Type 0
AreCoherentTogether = (w : Workspace) → IsSound w → ImplementsWell w → AllCoherent (graph w)

-- what a label is handed is coherent, and fresh for it
abbrev pub FitEach : Type 0
FitEach =
    (w : Workspace) → IsSound w → ImplementsWell w → (l : LabelParts) → is_label l ≡ true
    → Fits (graph w) l (map (outcome_of w) (dependencies w l))

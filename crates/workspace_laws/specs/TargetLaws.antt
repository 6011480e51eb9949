-- What the calls of implementations keep. (This project's own.)
use Rattle.std.specs.Prelude.{◌≡◌, ℕ, List}
use Rattle.loading.specs.Loads.{Path}
use Rattle.meaning.specs.Functions.{Files}
use Rattle.evaluation.specs.Evaluated.{Known}
use Rattle.evaluation.specs.Runs.{run_implementation}
use Rattle.implementations.specs.Implementations.{target_world}
use Rattle.outcomes.specs.Workspaces.{Workspace, ImplementsWell}
use Rattle.workspace_laws.specs.Found.{AllKnown}

-- In a workspace whose implementations are called with these files and these modules, and which has
-- all depsets of the modules, each call keeps coherence.
abbrev pub CallsKeepCoherence : Type 0
CallsKeepCoherence =
    (w : Workspace) (limit : ℕ) (files : Files) (paths : List Path) (known : Known)
    → w.implement ≡ run_implementation limit files paths target_world known
    → AllKnown known w.known → ImplementsWell w

-- What the call of the implementation of a target's rule comes to in a workspace (Bazel
-- documentation, "Rules", "Implementation function"; docs/PROFILE.md, "Targets").
use Rattle.std.specs.Prelude.{ℕ, List, Result}
use Rattle.workspace.specs.Labels.{LabelParts}
use Rattle.workspace.specs.Workspaces.{Pair, paths_of}
use Rattle.evaluation.specs.Runs.{run_implementation}
use Rattle.evaluation.specs.Workspaces.{linked_files}
use Rattle.implementations.specs.Implementations.{target_world}
use Rattle.targets.specs.Checks.{Dependency}
use Rattle.targets.specs.Steps.{Implemented, Fault}
use Rattle.targets.specs.declared.target.Target.{Target}
use Rattle.loader.specs.Files.{known}

-- The call, with the files of a workspace, in ascending order of their paths, and so many ticks for
-- each evaluation: what it gave, or its fault.
abbrev pub implement : List Pair → ℕ → LabelParts → Target → List Dependency
    → Result Implemented Fault
implement files limit =
    run_implementation limit (linked_files files) (paths_of files) target_world (known files limit)

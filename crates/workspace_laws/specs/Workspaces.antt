-- What becomes of the labels of a workspace: its packages, and its implementations (Bazel
-- documentation, "Build phases", the analysis phase; docs/PROFILE.md, "Targets").
use Rattle.std.specs.Prelude.{ℕ, List, Option, Result}
use Rattle.workspace.specs.Labels.{LabelParts}
use Rattle.workspace.specs.Workspaces.{Pair, paths_of}
use Rattle.loading.specs.Loads.{Path}
use Rattle.targets.specs.Checks.{Dependency}
use Rattle.targets.specs.Resolving.{Package}
use Rattle.targets.specs.Steps.{Implemented, Fault}
use Rattle.targets.specs.declared.target.Target.{Target}
use Rattle.evaluation.specs.Workspaces.{linked_files}
use Rattle.outcomes.specs.Workspaces.{Workspace}
use Rattle.workspace_laws.specs.Found.{in_modules}
use Rattle.workspace_laws.specs.ModuleLaws.{of_all}
use Rattle.packages.specs.Packages.{package_of_file_by, package_by, packages}
use Rattle.packages.specs.Packages as usual
use Rattle.target_outcomes.specs.Implementing as usual_calls
use Rattle.workspace_laws.specs.Files.{known, build_at}
use Rattle.workspace_laws.specs.Places.{plain_target_world}
use Rattle.workspace_laws.specs.Runs.{run_implementation}

-- the files of a workspace, in ascending order of their paths, and how many ticks each evaluation
-- may use
module _ (files : List Pair) (limit : ℕ) where
  -- ---- by plain listings: what a report says

  -- what a package has whose BUILD file is at this path, if it has one
  abbrev pub package_of_file : Option Path → Package
  package_of_file = package_of_file_by (build_at files limit)

  -- what the package of a name has
  abbrev pub package_at : List ℕ → Package
  package_at = package_by (build_at files limit) (paths_of files)

  -- what the call of an implementation comes to
  abbrev pub implement : LabelParts → Target → List Dependency → Result Implemented Fault
  implement =
      run_implementation limit (linked_files files) (paths_of files) plain_target_world
      (known files limit)

  -- the workspace that a report tells of
  abbrev pub plain_workspace : Workspace
  plain_workspace = record {
    paths = paths_of files;
    packages = packages files limit;
    package_at = package_at;
    implement = implement;
    known = in_modules (known files limit) (paths_of files);
  }

  -- ---- as the code lists depsets, which passes over each part that it has seen

  -- the workspace that the code goes through
  abbrev pub evaluated : Workspace
  evaluated = record {
    paths = paths_of files;
    packages = packages files limit;
    package_at = usual.package_at files limit;
    implement = usual_calls.implement files limit;
    known = of_all files limit;
  }

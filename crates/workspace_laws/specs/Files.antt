-- What the files of a workspace come to by plain listings: modules, `BUILD` files, and those that
-- fail (Bazel documentation, "Build phases", the loading phase; docs/PROFILE.md, "Loading").
use Rattle.std.specs.Prelude.{ℕ, List, Result}
use Rattle.lexer.specs.declared.fault.FaultKind.{FaultKind}
use Rattle.ticks.specs.declared.ticks.Kind.{Kind}
use Rattle.workspace.specs.Workspaces.{Pair, paths_of}
use Rattle.loading.specs.Loads.{Path, LoadFault}
use Rattle.loading.specs.Modules.{Sources, build_of}
use Rattle.modules.specs.declared.sorting.FileFault.{FileFault}
use Rattle.targets.specs.declared.target.Target.{Target}
use Rattle.evaluation.specs.declared.handed.Module.{Module}
use Rattle.evaluation.specs.Evaluated.{Known}
use Rattle.evaluation.specs.Workspaces.{linked_files}
use Rattle.loader.specs.Files.{known_by, fault_by, faults_by}
use Rattle.loader.specs.Files as usual
use Rattle.loader.specs.Places.{of_module, of_build}
use Rattle.workspace_laws.specs.Runs.{run_module, run_build}

-- the files of a workspace, in ascending order of their paths, and how many ticks each evaluation
-- may use
module _ (files : List Pair) (limit : ℕ) where
  -- the workspace as loading sees it, where modules are evaluated by plain listings
  abbrev pub loads : Sources ℕ Module FaultKind Kind
  loads =
      record (usual.loads files limit)
      { run = run_module limit (linked_files files) (paths_of files) of_module }

  -- the modules that have no fault
  abbrev pub known : Known
  known = known_by loads

  -- what the BUILD file at a path declares, or why it fails
  abbrev pub build_at : Path → Result (List Target) (LoadFault FaultKind Kind)
  build_at path =
      build_of loads
      (run_build limit (linked_files files) (paths_of files) (of_build (paths_of files))) path

  -- a file that fails, and why
  abbrev pub fault_at : Path → List (FileFault FaultKind Kind)
  fault_at = fault_by loads build_at

  -- all that fail, in the order of their paths
  abbrev pub faults : List (FileFault FaultKind Kind)
  faults = faults_by loads build_at (paths_of files)

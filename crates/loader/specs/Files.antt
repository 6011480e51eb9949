-- What the files of a workspace come to: modules, `BUILD` files, and those that fail (Bazel
-- documentation, "Build phases", the loading phase; docs/PROFILE.md, "Loading").
use Rattle.std.specs.Prelude.{ℕ, List, [], Some, Result, if◌then◌else◌}
use Rattle.std.specs.List.{flat_map}
use Rattle.lexer.specs.declared.fault.FaultKind.{FaultKind}
use Rattle.ticks.specs.declared.ticks.Kind.{Kind}
use Rattle.workspace.specs.FileKinds.{is_build_file, is_module}
use Rattle.workspace.specs.Workspaces.{Pair, paths_of}
use Rattle.loading.specs.Loads.{Path, LoadFault}
use Rattle.loading.specs.Modules.{Sources, value, any_module, build_of}
use Rattle.modules.specs.Modules.{fault_in}
use Rattle.modules.specs.declared.sorting.FileFault.{FileFault}
use Rattle.targets.specs.declared.target.Target.{Target}
use Rattle.evaluation.specs.declared.handed.Module.{Module}
use Rattle.evaluation.specs.Evaluated.{Known}
use Rattle.evaluation.specs.Workspaces.{sources_of, targets_of}
use Rattle.loader.specs.Places.{of_module, of_build}

-- a workspace as loading sees it, however its modules are evaluated
module _ (w : Sources ℕ Module FaultKind Kind) where
  -- the modules that have no fault
  abbrev pub known_by : Known
  known_by path = value (any_module w path)

  -- where `built` gives what the BUILD file at a path declares, or why it fails
  module _ (built : Path → Result (List Target) (LoadFault FaultKind Kind)) where
    -- a file that fails, and why; of a source file there is nothing to tell
    abbrev pub fault_by : Path → List (FileFault FaultKind Kind)
    fault_by path =
        if is_module path then fault_in path (any_module w path) else
        (if is_build_file path then fault_in path (Some (built path)) else [])

    -- all that fail among files of these paths, in their order
    abbrev pub faults_by : List Path → List (FileFault FaultKind Kind)
    faults_by paths = flat_map fault_by paths

-- the files of a workspace, in ascending order of their paths, and how many ticks each evaluation
-- may use
module _ (files : List Pair) (limit : ℕ) where
  -- the workspace as loading sees it, where modules are evaluated as the language has it
  abbrev pub loads : Sources ℕ Module FaultKind Kind
  loads = sources_of files limit of_module

  -- the modules that have no fault
  abbrev pub known : Known
  known = known_by loads

  -- what the BUILD file at a path declares, or why it fails
  abbrev pub build_at : Path → Result (List Target) (LoadFault FaultKind Kind)
  build_at path = build_of loads (targets_of files limit (of_build (paths_of files))) path

  -- a file that fails, and why
  abbrev pub fault_at : Path → List (FileFault FaultKind Kind)
  fault_at = fault_by loads build_at

  -- all that fail, in the order of their paths
  abbrev pub faults : List (FileFault FaultKind Kind)
  faults = faults_by loads build_at (paths_of files)

-- What the evaluation of one file, and the call of one implementation, come to by plain listings.
-- But for the operations it is all as `evaluation` has it. (This project's own.)
use Rattle.std.specs.Prelude.{ℕ, List, Result}
use Rattle.meaning.specs.Functions.{Files}
use Rattle.ticks.specs.declared.ticks.Kind.{Kind}
use Rattle.plain_language.specs.Language.{plain_language}
use Rattle.loading.specs.Loads.{Path}
use Rattle.loading.specs.declared.faults.Ending.{Ending}
use Rattle.loading.specs.declared.faults.Placed.{Placed}
use Rattle.workspace.specs.Labels.{LabelParts}
use Rattle.targets.specs.Checks.{Dependency}
use Rattle.targets.specs.Steps.{Implemented, Fault}
use Rattle.targets.specs.declared.target.Target.{Target}
use Rattle.evaluation.specs.declared.handed.Module.{Module}
use Rattle.evaluation.specs.Evaluated.{Known}
use Rattle.evaluation.specs.Runs.{OfModule, OfBuild, OfTarget, run_module_by, run_build_by}
use Rattle.evaluation.specs.Runs.{run_implementation_by}
use Rattle.evaluation.specs.Worlds.{world}

-- a limit of ticks; the files of a workspace, and their paths, by number
module _ (limit : ℕ) (files : Files) (paths : List Path) where
  -- the module of a path and a number
  abbrev pub run_module : {W : Type 0} → OfModule W → Known → Path → ℕ → Result Module (Ending Kind)
  run_module own known =
      run_module_by limit files paths own (plain_language (world paths known) (own.place known))

  -- the targets that the BUILD file of a path and a number declares
  abbrev pub run_build : {W : Type 0} → OfBuild W → Known → Path → ℕ
      → Result (List Target) (Placed Kind)
  run_build own known path =
      run_build_by limit files paths own
      (plain_language (world paths known) (own.place known path)) path

  -- the call of the implementation of a target's rule
  abbrev pub run_implementation : {W : Type 0} → OfTarget W → Known → LabelParts → Target
      → List Dependency → Result Implemented Fault
  run_implementation own known l t ds =
      run_implementation_by limit files paths own
      (plain_language (world paths known) (own.place known l t ds)) l t

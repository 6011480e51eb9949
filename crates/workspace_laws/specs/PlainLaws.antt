-- A workspace is the same by plain listings: in all that its evaluations see an id has one tree.
-- (Bazel's documentation of depsets has no ids; they are this project's own.)
use Rattle.std.specs.Prelude.{◌≡◌, ℕ, List}
use Rattle.coherence.specs.Coherent.{AreCoherent, AreFresh}
use Rattle.workspace.specs.Labels.{LabelParts, label_text}
use Rattle.workspace.specs.Workspaces.{IsWorkspace, Pair}
use Rattle.targets.specs.Checks.{Dependency}
use Rattle.targets.specs.declared.target.Target.{Target}
use Rattle.outcomes.specs.Found.{id_of, owner_of}
use Rattle.outcomes.specs.Workspaces.{handed, dependencies, outcome_of}
use Rattle.loader.specs.Files as usual
use Rattle.loader.specs.Loaded.{AreFilesOf}
use Rattle.packages.specs.Packages as usual_packages
use Rattle.target_outcomes.specs.Implementing as usual_calls
use Rattle.workspace_laws.specs.Files.{known, faults}
use Rattle.workspace_laws.specs.Workspaces.{package_at, implement, plain_workspace, evaluated}

-- the files of a workspace, in ascending order of their paths, and how many ticks each evaluation
-- may use
module _ (files : List Pair) (limit : ℕ) where
  -- ---- files

  -- each module comes to the same by plain listings
  abbrev pub ModulesAreTheSame : Type 0
  ModulesAreTheSame = usual.known files limit ≡ known files limit

  -- the same files fail, for the same reasons
  abbrev pub FaultsAreTheSame : Type 0
  FaultsAreTheSame = usual.faults files limit ≡ faults files limit

  -- and each package has the same
  abbrev pub PackagesAreTheSame : Type 0
  PackagesAreTheSame = usual_packages.package_at files limit ≡ package_at files limit

  -- ---- labels

  -- the call of an implementation, wherever what it is handed is coherent and fresh for its label
  abbrev pub CallsAreTheSame : Type 0
  CallsAreTheSame =
      (l : LabelParts) (t : Target) (ds : List Dependency)
      → AreCoherent id_of owner_of (handed (evaluated files limit) ds)
      → AreFresh id_of owner_of (label_text l) (handed (evaluated files limit) ds)
      → usual_calls.implement files limit l t ds ≡ implement files limit l t ds

  -- what labels depend on
  abbrev pub DependenciesAreTheSame : Type 0
  DependenciesAreTheSame =
      dependencies (evaluated files limit) ≡ dependencies (plain_workspace files limit)

  -- and what becomes of them, in any workspace that has these files
  abbrev pub OutcomesAreTheSame : Type 0
  OutcomesAreTheSame =
      (workspace : List Pair) → IsWorkspace workspace → AreFilesOf workspace files
      → outcome_of (evaluated files limit) ≡ outcome_of (plain_workspace files limit)

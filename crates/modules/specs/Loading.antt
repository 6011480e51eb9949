-- Modules that are loaded one after another, lower ones first (this project's own).
use Rattle.std.specs.Prelude.{◌≡◌, ℕ, ◌<◌, List, length, map, slice_index, slice_index_or, Option}
use Rattle.std.specs.Prelude.{Some, None, Result}
use Rattle.edges.specs.Rows.{row}
use Rattle.components.specs.Components.{Found}
use Rattle.loading.specs.Loads.{Path, Read, LoadFault, of_modules, path_at}
use Rattle.loading.specs.Modules.{Sources, targets_in, module_of}
use Rattle.load_graph.specs.Paths.{ArePaths, listed, AreNumbers}
use Rattle.load_graph.specs.Plan.{IsPlan}
use Rattle.modules.specs.Evaluation.{Evaluation}

-- each module depends on those that its file loads
pub record AreLinks {T E : Type 0} (paths : List Path) (files : List (Result (Read T) E))
    (deps : List (List ℕ)) : Type 0 where
  pub size : length deps ≡ length files
  pub rows : (n : ℕ) (d : Result (Read T) E) → n < length files
      → AreNumbers paths (targets_in (of_modules (listed paths) (slice_index_or files n d)))
      (row deps n)

-- the files were read, and it is known who loads whom and in which order modules are evaluated
pub record IsReady {T M S K : Type 0} (e : Evaluation T M S K) (paths : List Path)
    (files : List (Result (Read T) (S × ℕ))) (found : Found) (heights order : List ℕ) : Type 0 where
  pub paths_are : ArePaths paths
  pub files_are : files ≡ map e.read paths
  pub links : AreLinks paths files found.deps
  pub plan : IsPlan found.deps found heights order

module _ {T M S K : Type 0} (w : Sources T M S K) where
  -- all modules that stand lower than the one of this number are done
  pub record IsBelow (heights : List ℕ) (done : List (Option (Result M (LoadFault S K))))
      (n : ℕ) : Type 0 where
    pub size : length done ≡ length w.modules
    pub below : (m : ℕ) → m < length w.modules → slice_index heights m < slice_index heights n
        → slice_index_or done m None ≡ Some (module_of w (path_at w.modules m))

  -- the first modules in order are done
  pub record AreDone (order : List ℕ) (upto : ℕ)
      (done : List (Option (Result M (LoadFault S K)))) : Type 0 where
    pub size : length done ≡ length w.modules
    pub done_are : (j : ℕ) → j < upto
        → slice_index_or done (slice_index order j) None
        ≡ Some (module_of w (path_at w.modules (slice_index order j)))

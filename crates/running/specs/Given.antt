-- What a run begins with. (This project's own.)
use Rattle.std.specs.Prelude.{◌≡◌, ℕ, List, length}
use Rattle.meaning.specs.Functions.{Files, functions}
use Rattle.loading.specs.Loads.{Name}
use Rattle.evaluation.specs.Runs.{program_at}

-- the names of the top level and the count of functions that are handed in are those of the file of
-- this number
pub record AreOf (files : Files) (n : ℕ) (names : List Name) (count : ℕ) : Type 0 where
  pub names_are : names ≡ (program_at files n).globals
  pub functions_are : count ≡ length (functions (program_at files n))

-- The top level of a file, as a run takes it (this project's own).
use Rattle.std.specs.Prelude.{◌≡◌, ℕ}
use Rattle.meaning.specs.Functions.{Files}
use Rattle.loading.specs.Loads.{Path}
use Rattle.running.specs.Given.{AreOf}
use Rattle.loader.specs.declared.top.Top.{Top}

-- that of the file of this number, which is run at this path
pub record IsTop (files : Files) (path : Path) (n : ℕ) (top : Top) : Type 0 where
  pub path_is : top.path ≡ path
  pub number_is : top.number ≡ n
  pub own : AreOf files top.number top.names top.functions

-- Files in the order of their paths. (This project's own.)
use Rattle.std.specs.Prelude.{◌≡◌, List}
use Rattle.loading.specs.Loads.{Path}
use Rattle.workspace.specs.Workspaces.{Pair, paths_of}
use Rattle.load_graph.specs.Paths.{ArePaths}

-- these are the paths of the files, ascending and each once
pub record AreListed (files : List Pair) (paths : List Path) : Type 0 where
  pub paths_are : paths ≡ paths_of files
  pub ascending : ArePaths (paths_of files)

-- A workspace whose modules were evaluated. (This project's own.)
use Rattle.std.specs.Prelude.{ℕ, List}
use Rattle.std.specs.List.Sorted.{IsPermutation}
use Rattle.load_graph.specs.Paths.{ArePaths}
use Rattle.workspace.specs.Workspaces.{Pair, paths_of}

-- its files, in ascending order of their paths, and how many ticks each evaluation may use
pub record LoadedView : Type 0 where
  pub files : List Pair
  pub limit : ℕ

-- these are the files of a workspace, in ascending order of their paths
pub record AreFilesOf (workspace files : List Pair) : Type 0 where
  pub all : IsPermutation workspace files
  pub ascending : ArePaths (paths_of files)

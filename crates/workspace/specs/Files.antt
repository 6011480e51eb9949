-- The files of a workspace that is held in memory. (This project's own.)
use Rattle.std.specs.Prelude.{List, map}
use Rattle.workspace.specs.declared.workspace.File.{File}
use Rattle.workspace.specs.Workspaces.{Pair}

-- each file's path and text
abbrev pub file_pairs : List File → List Pair
file_pairs files = map (λ f. (f.path, f.text)) files

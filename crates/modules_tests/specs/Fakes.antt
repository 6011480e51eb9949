-- Files by path, for tests. (This project's own.)
use Rattle.std.specs.Prelude.{ℕ, List, Option, Some, None, Result, Err}
use Rattle.loading.specs.Loads.{Path, Name, Read}
use Rattle.load_graph.specs.Paths.{entry}

-- what a file was read as: its loads and a list of names, or its fault as two numbers
abbrev pub File : Type 0
File = Result (Read (List Name)) (ℕ × ℕ)

-- a file, if there is one, and else a fault
abbrev pub or_none : Option File → File
or_none (Some f) = f
or_none None = Err (0, 0)

-- the file at a path, of files with one for each of these paths; at any other path a fault
abbrev pub file_in : List Path → List File → Path → File
file_in paths files p = or_none (entry paths files p)

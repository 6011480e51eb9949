-- What is kept of a file that was read and compiled. (This project's own.)
use Rattle.std.specs.Prelude.{◌≡◌, ℕ, List, length, map, Result, Ok, Err}
use Rattle.lexer.specs.declared.fault.FaultKind.{FaultKind}
use Rattle.lexer.specs.declared.fault.SyntaxFault.{SyntaxFault}
use Rattle.program_tree.specs.Names.{Name}
use Rattle.program_tree.specs.Resolved.{Program}
use Rattle.meaning.specs.Functions.{functions}
use Rattle.meaning.specs.Instructions.{Codes}
use Rattle.meaning.specs.StatementCode.{code_of}
use Rattle.loading.specs.Loads.{Path, Load, Read}
use Rattle.workspace.specs.Workspaces.{Pair}
use Rattle.evaluation.specs.Workspaces.{loads_in, parsed, code_of_parsed, linked_files}

-- The names of a file's top level, how many functions it has, with its top level, and its loads or
-- its syntax fault.
pub record KeptView : Type 0 where
  pub names : List Name
  pub functions : ℕ
  pub loads : Result (List Load) (FaultKind × ℕ)

-- the loads of the file at a path that was parsed so, or the kind and the line of its syntax fault
abbrev pub loads_of : Path → Result Program SyntaxFault → Result (List Load) (FaultKind × ℕ)
loads_of path (Ok p) = Ok (loads_in path p.steps)
loads_of path (Err f) = Err (f.kind, f.line)

-- what is kept of the file at a path that was parsed so
abbrev pub kept_as : Path → Result Program SyntaxFault → KeptView
kept_as path r = record {
  names = (code_of_parsed r).globals;
  functions = length (functions (code_of_parsed r));
  loads = loads_of path r;
}

-- what is kept of a file of a workspace
abbrev pub kept_of : Pair → KeptView
kept_of f = kept_as f.0 (parsed f.0 f.1)

-- what loading sees of it, under its number
abbrev pub as_read : ℕ → Result (List Load) (FaultKind × ℕ) → Result (Read ℕ) (FaultKind × ℕ)
as_read n (Ok ls) = Ok (record { loads = ls; tree = n })
as_read n (Err e) = Err e

-- this is kept of files, and these are their codes
pub record AreRead (files : List Pair) (kept : List KeptView) (codes : Codes) : Type 0 where
  pub kept_are : kept ≡ map kept_of files
  pub codes_are : codes ≡ code_of (linked_files files)

-- The files of a workspace, as they are read and evaluated. (docs/PROFILE.md, "Files" and
-- "Loading"; that files have numbers is this project's own.)
use Rattle.std.specs.Prelude.{ℕ, Bool, ◌||◌, List, [], ◌∷◌, map, length, unwrap_or, position}
use Rattle.std.specs.Prelude.{bytes_eq, Result, Ok, Err, if◌then◌else◌}
use Rattle.std.specs.List.{filter}
use Rattle.std.specs.Map.{lookup}
use Rattle.lexer.specs.declared.fault.FaultKind.{FaultKind}
use Rattle.lexer.specs.declared.fault.SyntaxFault.{SyntaxFault}
use Rattle.lexer.specs.declared.file_kind.FileKind.{FileKind}
use Rattle.lexer.specs.declared.file_kind.FileKind.TheVariants as kind
use Rattle.grammar.specs.BareLines.{bare_lines}
use Rattle.grammar.specs.Blocks.{Block}
use Rattle.file_syntax.specs.Files.{syntax}
use Rattle.program_tree.specs.Resolved.{Statement, load, Steps, no_steps, step, Program, resolved}
use Rattle.meaning.specs.Functions.{Files}
use Rattle.ticks.specs.declared.ticks.Kind.{Kind}
use Rattle.loading.specs.Loads.{Path, Load, Read}
use Rattle.loading.specs.Modules.{Sources}
use Rattle.workspace.specs.FileKinds.{is_build_file, is_module}
use Rattle.workspace.specs.Workspaces.{Pair, paths_of}
use Rattle.targets.specs.declared.target.Target.{Target}
use Rattle.evaluation.specs.Evaluated.{Module, Known, global_names}
use Rattle.evaluation.specs.Worlds.{load_path}
use Rattle.evaluation.specs.Runs.{OfModule, OfBuild, no_program, run_module, run_build}
use Rattle.loading.specs.declared.faults.Placed.{Placed}

-- ---- load statements

-- a statement's load before those of later lines, if the statement is a load
abbrev pub with_load : Path → ℕ → Statement → List Load → List Load
with_load path n (load t is) ls =
    record { line = n; target = load_path path t; asked = map (λ i. i.asked) is } ∷ ls
with_load path n _ ls = ls

-- those of a file of this path, in order
abbrev pub loads_in : Path → Steps → List Load
loads_in path no_steps = []
loads_in path (step n st ss) = with_load path n st (loads_in path ss)

-- ---- files

-- modules and BUILD files are written in Starlark; the text of any other file isn't used
abbrev pub is_starlark : Path → Bool
is_starlark path = is_build_file path || is_module path

-- by which rules a file is read: those of modules or those of BUILD files
abbrev pub kind_of : Path → FileKind
kind_of path = if is_module path then kind.Module else kind.Build

-- the program of a text, its names resolved, or the syntax fault
abbrev pub as_program : Result Block SyntaxFault → Result Program SyntaxFault
as_program (Ok tree) = Ok (resolved (bare_lines tree))
as_program (Err f) = Err f

-- the file that a text is, at this path
abbrev pub parsed : Path → List ℕ → Result Program SyntaxFault
parsed path text =
    if is_starlark path then as_program (syntax text (kind_of path)) else Ok no_program

-- the program that is linked, which is empty where there is a syntax fault
abbrev pub code_of_parsed : Result Program SyntaxFault → Program
code_of_parsed (Ok p) = p
code_of_parsed (Err f) = no_program

-- What has a syntax fault, or isn't Starlark, has no code.
abbrev pub linked_file : Pair → Program
linked_file f = code_of_parsed (parsed f.0 f.1)

-- a file that is read: its loads, and its number, by which its code is found
abbrev pub read_as : Path → ℕ → Result Program SyntaxFault → Result (Read ℕ) (FaultKind × ℕ)
read_as path n (Ok p) = Ok (record { loads = loads_in path p.steps; tree = n })
read_as path n (Err f) = Err (f.kind, f.line)

-- the files of a workspace in the order of their paths, by which they are numbered
module _ (files : List Pair) where
  -- the number of a file, which is its place; a path that no file has gets the count of files
  abbrev pub number_of : Path → ℕ
  number_of path = unwrap_or (position (bytes_eq path) (paths_of files)) (length files)

  -- the text of a file; where there is none, it is empty
  abbrev pub text_at : Path → List ℕ
  text_at path = unwrap_or (lookup (bytes_eq path) files) []

  -- what loading reads of the file at a path: its loads, or its syntax fault with the line
  abbrev pub read_file : Path → Result (Read ℕ) (FaultKind × ℕ)
  read_file path = read_as path (number_of path) (parsed path (text_at path))

  -- the programs of all files, by number: the code that every evaluation runs
  abbrev pub linked_files : Files
  linked_files = map linked_file files

  -- ---- what its modules and BUILD files come to, with a limit of ticks for each evaluation
  module _ (limit : ℕ) where
    -- its modules, as loading takes them
    abbrev pub sources_of : {W : Type 0} → OfModule W → Sources ℕ Module FaultKind Kind
    sources_of own =
        record {
          modules = filter is_module (paths_of files);
          read = read_file;
          globals = global_names;
          run = run_module limit linked_files (paths_of files) own;
        }

    -- the targets of a BUILD file, with the modules that are known
    abbrev pub targets_of : {W : Type 0} → OfBuild W → Known → Path → ℕ
        → Result (List Target) (Placed Kind)
    targets_of own = run_build limit linked_files (paths_of files) own

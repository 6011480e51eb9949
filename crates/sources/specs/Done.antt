-- Files that were read and compiled, apart. (This project's own.)
use Rattle.std.specs.Prelude.{◌≡◌, ℕ, ◌<◌, List, [], length, slice_index_or}
use Rattle.meaning.specs.StatementCode.{file_code}
use Rattle.workspace.specs.Workspaces.{Pair}
use Rattle.evaluation.specs.Workspaces.{linked_file}
use Rattle.sources.specs.Kept.{kept_of}
use Rattle.sources.specs.declared.kept.FileDone.{FileDone}

-- this is kept of a file, and this is its code
pub record IsDone (file : Pair) (done : FileDone) : Type 0 where
  pub kept : done.kept ≡ kept_of file
  pub code : done.code ≡ file_code (linked_file file)

-- the same, of the file at a place
abbrev pub IsDoneAt : List Pair → ℕ → FileDone → Type 0
IsDoneAt files i done = IsDone (slice_index_or files i ([], [])) done

-- and of all files, in their order
pub record AreDone (files : List Pair) (all : List FileDone) : Type 0 where
  pub len : length all ≡ length files
  pub each : (i : ℕ) (d : FileDone) → i < length all → IsDoneAt files i (slice_index_or all i d)

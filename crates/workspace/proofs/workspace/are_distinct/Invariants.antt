use Rattle.std.proofs.Common.{take}
use Rattle.workspace.specs.Files.{file_pairs}
use Rattle.workspace.proofs.WorkspaceLemmas.{NotesPaths}
use Rattle.workspace.proofs.workspace.are_distinct.Given as goal

abbrev pub invariant-loop-file : goal.invariant-loop-file
invariant-loop-file l = NotesPaths (file_pairs (take l.file-index l.files)) l.paths

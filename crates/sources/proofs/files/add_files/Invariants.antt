use Rattle.std.proofs.Common.{◌≡◌, ◌++◌, take}
use Rattle.workspace.specs.Files.{file_pairs}
use Rattle.sources.proofs.files.add_files.Given as goal

abbrev pub invariant-loop-file : goal.invariant-loop-file
invariant-loop-file l = l.all.items ≡ l.initial.all.items ++ file_pairs (take l.file-index l.files)

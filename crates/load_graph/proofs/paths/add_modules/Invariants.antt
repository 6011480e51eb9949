use Rattle.std.proofs.Common.{◌≡◌, ◌++◌, take}
use Rattle.workspace.specs.Files.{file_pairs}
use Rattle.load_graph.specs.Paths.{module_paths}
use Rattle.load_graph.proofs.paths.add_modules.Given as goal

abbrev pub invariant-loop-file : goal.invariant-loop-file
invariant-loop-file l = l.paths.items ≡ l.initial.paths.items ++ module_paths (file_pairs (take l.file-index l.files))

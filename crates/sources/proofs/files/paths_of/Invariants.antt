use Rattle.std.proofs.Common.{◌≡◌, take}
use Rattle.workspace.specs.Workspaces.{paths_of}
use Rattle.sources.proofs.files.paths_of.Given as goal

abbrev pub invariant-loop-file : goal.invariant-loop-file
invariant-loop-file l = l.paths.items ≡ paths_of (take l.file-index l.files)

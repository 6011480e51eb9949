use Rattle.std.proofs.Common.{◌≡◌, take}
use Rattle.workspace.specs.Workspaces.{pairs_behind}
use Rattle.workspace.proofs.workspace.Workspace.new.Given as goal

abbrev pub invariant-loop-path : goal.invariant-loop-path
invariant-loop-path l = l.files ≡ pairs_behind (take l.path-index l.pairs)

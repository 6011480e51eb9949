use Rattle.std.proofs.Common.{◌≡◌, ◌++◌, drop}
use Rattle.endings.proofs.called.share_names.Given as goal

abbrev pub invariant-loop-name : goal.invariant-loop-name
invariant-loop-name l = l.shared ++ drop l.name-index l.name-items ≡ l.names

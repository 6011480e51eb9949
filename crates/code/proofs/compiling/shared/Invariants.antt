use Rattle.std.proofs.Common.{◌≡◌, ◌++◌, drop}
use Rattle.code.proofs.compiling.shared.Given as goal

-- the texts so far, and the others
abbrev pub invariant-loop-name : goal.invariant-loop-name
invariant-loop-name l = l.all.items ++ drop l.name-index l.names ≡ l.names

use Rattle.std.proofs.Common.{◌≡◌, take}
use Rattle.sources.proofs.shares.statements.Given as goal

abbrev pub invariant-loop-load : goal.invariant-loop-load
invariant-loop-load l = l.all.items ≡ take l.load-index l.loads

use Rattle.std.proofs.Common.{take}
use Rattle.analysis.specs.Returned.{AreReturned}
use Rattle.analysis.proofs.returned.are_different.Given as goal

abbrev pub invariant-loop-value : goal.invariant-loop-value
invariant-loop-value l = AreReturned (take l.value-index l.values) l.seen

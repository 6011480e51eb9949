use Rattle.std.proofs.Common.{take}
use Rattle.analysis.specs.Returned.{HaveNumbers}
use Rattle.analysis.proofs.offered.numbers_of.Given as goal

abbrev pub invariant-loop-value : goal.invariant-loop-value
invariant-loop-value l = HaveNumbers (take l.value-index l.values) l.seen

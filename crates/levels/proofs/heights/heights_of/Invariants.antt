use Rattle.levels.proofs.Settling.{IsSettled}
use Rattle.levels.proofs.heights.heights_of.Given as goal

abbrev pub invariant-loop-n : goal.invariant-loop-n
invariant-loop-n l = record {
  settled : IsSettled l.components.deps l.components.numbers l.n-items l.n-index l.heights.items;
}

use Rattle.components.specs.Search.{IsResting}
use Rattle.components.proofs.found.numbers_of.Given as goal

abbrev pub invariant-loop-n : goal.invariant-loop-n
invariant-loop-n l = record {
  rests : IsResting l.deps l.n l.search;
}

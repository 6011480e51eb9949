use Rattle.components.specs.Search.{IsSearch, StayMet}
use Rattle.components.specs.Turns.{work_of}
use Rattle.components.proofs.search.Search.run.Given as goal

abbrev pub invariant-loop-start : goal.invariant-loop-start
invariant-loop-start l = record {
  search : IsSearch l.deps l.self;
  met : StayMet l.initial.self l.self;
}

abbrev pub decreases-loop-start : goal.decreases-loop-start
decreases-loop-start l = work_of l.deps l.self

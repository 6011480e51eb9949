use Rattle.parallel.specs.Made.{AreMade}
use Rattle.parallel.proofs.turns.take_turns.Given as goal

abbrev pub invariant-loop : goal.invariant-loop
invariant-loop g l = AreMade g.F.Fn l.f l.made.items

use Rattle.std.proofs.Common.{◌≡◌}
use Rattle.board.specs.Views.{IsPassOf, knows}
use Rattle.board_tests.proofs.worker.value_of.Given as goal

abbrev pub invariant-loop-i : goal.invariant-loop-i
invariant-loop-i l = record {
  pass : IsPassOf l.board l.pass;
  fresh : knows l.pass l.n ≡ knows l.initial.pass l.n;
  stays : l.pass.journal ≡ record l.initial.pass.journal { seen = l.pass.journal.seen };
}

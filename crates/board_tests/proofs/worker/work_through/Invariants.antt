use Rattle.board.specs.Views.{IsPassOf}
use Rattle.board_tests.proofs.worker.work_through.Given as goal

abbrev pub invariant-loop : goal.invariant-loop
invariant-loop l = IsPassOf l.board l.pass

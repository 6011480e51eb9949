use Rattle.board.specs.Views.{IsPassOf}
use Rattle.board_tests.proofs.worker.turn.Given as goal

abbrev pub invariant-loop-n : goal.invariant-loop-n
invariant-loop-n l = IsPassOf l.board l.pass

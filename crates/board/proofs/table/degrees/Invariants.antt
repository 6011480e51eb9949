use Rattle.std.proofs.Common.{◌≡◌, map, take, length}
use Rattle.board.proofs.table.degrees.Given as goal

abbrev pub invariant-loop-n : goal.invariant-loop-n
invariant-loop-n g l = l.degrees.items ≡ map length (take l.n (g.P.Plan.lists l.plan))

use Rattle.std.proofs.Common.{arith}
use Rattle.board_tests.proofs.Places.{times_some, times_none}
use Rattle.board_tests.proofs.lists.has.Goals as goal

pub returns-then-list-i : goal.returns-then-list-i
returns-then-list-i c = times_some c.args.list.now c.args.x c.loop-i.i c.loop-i-test.true c.if-list-i.true

pub returns : goal.returns
returns c = times_none c.args.list.now c.args.x (λ k lt. c.loop-i.invariant k (let end = c.loop-i-test.false in omega arith))

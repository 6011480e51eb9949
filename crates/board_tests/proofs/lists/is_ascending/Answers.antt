use Rattle.std.proofs.Common.{arith}
use Rattle.board_tests.proofs.Places.{ascending_once}
use Rattle.board_tests.proofs.lists.is_ascending.Goals as goal

pub returns : goal.returns
returns c = ascending_once c.args.list.now (λ k lt. c.loop-i.invariant k (let end = c.loop-i-test.false in omega arith))

use Rattle.std.proofs.Common.{arith, ◌<◌, ℕ, subst}
use Rattle.board_tests.proofs.Places.{times_at}
use Rattle.board_tests.proofs.lists.is_below.Goals as goal

pub returns : goal.returns
returns c x p = let at = times_at c.args.list.now x p in let lt = at.1 in let end = c.loop-i-test.false in subst (λ (y : ℕ). y < c.args.limit) at.2 (c.loop-i.invariant at.0 (omega arith))

use Rattle.std.proofs.Common.{ℕ, ◌<◌, List, map, subst, arith}
use Rattle.board.specs.Journal.{times, deps}
use Rattle.board_tests.proofs.Places.{times_at}
use Rattle.board_tests.proofs.lists.all_have.Goals as goal

pub returns : goal.returns
returns c x p =
    let lists : List (List ℕ) = map (λ v. v.items) c.args.lists.now in let at = times_at c.args.numbers.now x p in let lt = at.1 in let end = c.loop-i-test.false in
    subst (λ (y : ℕ). 0 < times c.args.n (deps lists y)) at.2 (c.loop-i.invariant at.0 (omega arith))

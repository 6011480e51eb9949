use Rattle.std.proofs.Common.{ℕ, ◌<◌, map, get_or}
use Rattle.board.specs.Journal.{times, deps}
use Rattle.board_tests.proofs.lists.all_have.Given as goal

abbrev pub invariant-loop-i : goal.invariant-loop-i
invariant-loop-i l = (k : ℕ) → k < l.i → 0 < times l.n (deps (map (λ v. v.items) l.lists) (get_or l.numbers k 0))

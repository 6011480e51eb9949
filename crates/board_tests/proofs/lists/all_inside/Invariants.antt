use Rattle.std.proofs.Common.{ℕ, ◌<◌, map, length}
use Rattle.board.specs.Journal.{times, deps}
use Rattle.board_tests.proofs.lists.all_inside.Given as goal

abbrev pub invariant-loop-n : goal.invariant-loop-n
invariant-loop-n l = (k x : ℕ) → k < l.n → 0 < times x (deps (map (λ v. v.items) l.lists) k) → x < length l.lists

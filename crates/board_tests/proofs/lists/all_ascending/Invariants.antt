use Rattle.std.proofs.Common.{ℕ, ◌<◌, ◌≤◌, map}
use Rattle.board.specs.Journal.{times, deps}
use Rattle.board_tests.proofs.lists.all_ascending.Given as goal

abbrev pub invariant-loop-n : goal.invariant-loop-n
invariant-loop-n l = (k x : ℕ) → k < l.n → times x (deps (map (λ v. v.items) l.lists) k) ≤ 1

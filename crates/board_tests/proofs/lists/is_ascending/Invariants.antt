use Rattle.std.proofs.Common.{ℕ, suc, ◌<◌, get_or}
use Rattle.board_tests.proofs.lists.is_ascending.Given as goal

abbrev pub invariant-loop-i : goal.invariant-loop-i
invariant-loop-i l = (k : ℕ) → suc k < l.i → get_or l.list k 0 < get_or l.list (suc k) 0

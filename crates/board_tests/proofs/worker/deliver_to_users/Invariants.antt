use Rattle.std.proofs.Common.{◌≡◌, ◌<◌, ◌≤◌, ℕ, length, get_or}
use Rattle.board.specs.Journal.{edge_times}
use Rattle.board.specs.Views.{IsPassOf, IsHeld}
use Rattle.board_tests.proofs.worker.deliver_to_users.Given as goal

abbrev pub invariant-loop-i : goal.invariant-loop-i
invariant-loop-i g l = record {
  pass : IsPassOf l.board l.pass;
  held : IsHeld l.pass l.n;
  same : l.published ≡ l.initial.published;
  sent : (k : ℕ) → k < l.i → 0 < edge_times l.n (get_or l.users k 0) l.pass.journal.delivered;
  unsent : (k : ℕ) → l.i ≤ k → k < length l.users → edge_times l.n (get_or l.users k 0) l.pass.journal.delivered ≡ 0;
}

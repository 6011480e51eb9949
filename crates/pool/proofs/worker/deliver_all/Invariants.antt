use Rattle.std.proofs.Common.{◌≡◌, ◌<◌, ◌≤◌, ℕ, length, get_or}
use Rattle.board.specs.Journal.{edge_times}
use Rattle.board.specs.Views.{IsPassOf, IsHeld}
use Rattle.pool.proofs.worker.deliver_all.Given as goal

abbrev pub invariant-loop-user : goal.invariant-loop-user
invariant-loop-user g l = record {
  of : IsPassOf l.board l.pass;
  shelf : g.S.Shelf.nodes l.shelf ≡ g.S.Shelf.nodes l.initial.shelf;
  held : IsHeld l.pass l.n;
  same : l.published ≡ l.initial.published;
  memory : l.pass.memory ≡ l.initial.pass.memory;
  finished : l.pass.journal.finished ≡ l.initial.pass.journal.finished;
  set : l.pass.journal.set ≡ l.initial.pass.journal.set;
  sent : (k : ℕ) → k < l.user-index → get_or l.users k 0 < l.acyclic → 0 < edge_times l.n (get_or l.users k 0) l.pass.journal.delivered;
  unsent : (k : ℕ) → l.user-index ≤ k → k < length l.users → edge_times l.n (get_or l.users k 0) l.pass.journal.delivered ≡ 0;
}

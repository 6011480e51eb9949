use Rattle.std.proofs.Common.{◌≡◌, ℕ, ◌<◌, ◌≤◌, length, map, Some, slice_index, slice_index_or, vec_capacity}
use Rattle.board.specs.Views.{IsPassOf, Keeps, knows}
use Rattle.pool.proofs.worker.read_all.Given as goal

abbrev pub invariant-loop-d : goal.invariant-loop-d
invariant-loop-d g l = record {
  of : IsPassOf l.board l.pass;
  keeps : Keeps (knows l.fn.pass) (knows l.pass);
  fresh : knows l.pass l.n ≡ knows l.fn.pass l.n;
  stays : l.pass.journal ≡ record l.fn.pass.journal { seen = l.pass.journal.seen; saw = l.pass.journal.saw };
  len : length l.values.items ≡ l.d-index;
  room : length l.list ≤ vec_capacity l.values;
  each : (k : ℕ) (u : _) → k < l.d-index → knows l.pass (slice_index l.list k) ≡ Some (slice_index_or (map (λ r. r.now) l.values.items) k u);
}

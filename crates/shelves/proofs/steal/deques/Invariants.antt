use Rattle.std.proofs.Common.{◌≡◌, ℕ, ◌<◌, length, slice_index_or}
use Rattle.crossbeam_deque.specs.Handles.{worker_view}
use Rattle.shelves.specs.Numbers.{told}
use Rattle.shelves.proofs.steal.deques.Given as goal

abbrev pub invariant-loop : goal.invariant-loop
invariant-loop l = (length l.owns.items ≡ l.counter) × ((k : ℕ) (w : _) → k < l.counter → worker_view (slice_index_or l.owns.items k w) ≡ told l.nodes)

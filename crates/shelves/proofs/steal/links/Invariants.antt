use Rattle.std.proofs.Common.{◌≡◌, ℕ, ◌<◌, length, slice_index_or}
use Rattle.crossbeam_deque.specs.Handles.{worker_view}
use Rattle.shelves.specs.Numbers.{told}
use Rattle.shelves.proofs.steal.links.Given as goal

abbrev pub invariant-loop-i : goal.invariant-loop-i
invariant-loop-i l = (length l.links.items ≡ l.i) × ((k : ℕ) (w : _) → k < length l.fn.owns → worker_view (slice_index_or l.owns k w) ≡ told l.nodes)

use Rattle.std.proofs.Common.{◌≡◌, ℕ, ◌<◌, length, slice_index_or}
use Rattle.crossbeam_deque.specs.Handles.{worker_view}
use Rattle.shelves.specs.Numbers.{told}
use Rattle.shelves.proofs.steal.others_of.Given as goal

abbrev pub invariant-loop : goal.invariant-loop
invariant-loop l = (l.at < length l.fn.owns) × ((k : ℕ) (w : _) → k < length l.fn.owns → worker_view (slice_index_or l.owns k w) ≡ told l.nodes)

use Rattle.std.proofs.Common.{◌≡◌, ℕ, ◌+◌, ◌<◌, slice_index_or, vec_len}
use Rattle.std.specs.List.{All}
use Rattle.std.specs.Vec.Iter.{into_iter_items, into_iter_len}
use Rattle.crossbeam_deque.specs.Handles.{worker_view}
use Rattle.shelves.specs.Numbers.{told}
use Rattle.shelves.proofs.steal.StealShelf.ends_of.Given as goal

abbrev pub invariant-loop-own : goal.invariant-loop-own
invariant-loop-own l =
    let rest = l.own-iterator in
    record {
      whole : vec_len l.ends + into_iter_len rest ≡ l.workers;
      links : vec_len l.links ≡ into_iter_len rest;
      told : (k : ℕ) (w : _) → k < into_iter_len rest → worker_view (slice_index_or (into_iter_items rest) k w) ≡ told l.nodes;
      nodes : All (λ e. e ≡ l.nodes) l.ends.items;
    }

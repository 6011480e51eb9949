use Rattle.std.proofs.Common.{◌≡◌, ℕ, ◌<◌, length, get_or}
use Rattle.edges.proofs.numbering.places_of.Given as goal

abbrev pub invariant-loop-k : goal.invariant-loop-k
invariant-loop-k l = record {
  len : length l.places.items ≡ length l.order;
  each : (k : ℕ) → k < l.k → get_or l.places.items (get_or l.order k 0) 0 ≡ k;
}

use Rattle.std.proofs.Common.{◌≡◌, ℕ, ◌<◌, length, get_or}
use Rattle.levels.proofs.order.keyed.Given as goal

abbrev pub invariant-loop-n : goal.invariant-loop-n
invariant-loop-n l = record {
  size : length l.pairs.items ≡ l.n;
  each : (k : ℕ) → k < l.n → get_or l.pairs.items k (0, 0) ≡ (get_or l.keys k 0, k);
}

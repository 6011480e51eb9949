use Rattle.std.proofs.Common.{◌≡◌, ℕ, ◌<◌, length, get_or, take, sum}
use Rattle.std.specs.List.{sum_by}
use Rattle.edges.proofs.Sorting.{users_among}
use Rattle.edges.proofs.users.user_counts.Given as goal

abbrev pub invariant-loop-n : goal.invariant-loop-n
invariant-loop-n l = record {
  len : length l.counts.items ≡ length l.deps;
  each : (d : ℕ) → d < length l.deps → get_or l.counts.items d 0 ≡ length (users_among l.deps d l.n);
  all : sum l.counts.items ≡ sum_by length (take l.n l.deps);
}

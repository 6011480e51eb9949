use Rattle.std.proofs.Common.{◌≡◌, ℕ, ◌<◌, length}
use Rattle.edges.specs.Rows.{row}
use Rattle.edges.proofs.Sorting.{users_among}
use Rattle.edges.proofs.users.users_of.Given as goal

abbrev pub invariant-loop-n : goal.invariant-loop-n
invariant-loop-n l = record {
  len : length l.users.lists ≡ length l.deps;
  each : (d : ℕ) → d < length l.deps → row l.users.lists d ≡ users_among l.deps d l.n;
  room : l.users.room ≡ l.counts.items;
}

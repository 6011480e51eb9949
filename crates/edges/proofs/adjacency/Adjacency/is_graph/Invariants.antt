use Rattle.std.proofs.Common.{◌≡◌, ℕ, ◌+◌, ◌<◌, length, get_or}
use Rattle.edges.specs.Rows.{row, IsRow}
use Rattle.edges.proofs.adjacency.Adjacency.is_graph.Given as goal

abbrev pub invariant-loop-n : goal.invariant-loop-n
invariant-loop-n l = record {
  len : length l.marks.items ≡ length l.self;
  below : (d : ℕ) → d < length l.self → get_or l.marks.items d 0 < l.n + 1;
  rows : (m : ℕ) → m < l.n → IsRow (length l.self) (row l.self m);
}

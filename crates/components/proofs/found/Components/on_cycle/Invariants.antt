use Rattle.std.proofs.Common.{◌≢◌, ℕ, ◌<◌, slice_index}
use Rattle.edges.specs.Rows.{row}
use Rattle.components.proofs.found.Components.on_cycle.Given as goal

abbrev pub invariant-loop-d : goal.invariant-loop-d
invariant-loop-d l = record {
  none : (i : ℕ) → i < l.d-index → slice_index l.self.numbers (slice_index (row l.self.deps l.fn.n) i) ≢ l.own;
}

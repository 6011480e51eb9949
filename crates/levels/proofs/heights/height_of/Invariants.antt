use Rattle.std.proofs.Common.{◌≡◌, ◌≢◌, ℕ, ◌<◌, ◌≤◌, get_or, map, take}
use Rattle.std.specs.Prelude.{slice_index}
use Rattle.edges.specs.Rows.{row}
use Rattle.loading.specs.Modules.{above_all}
use Rattle.levels.proofs.heights.height_of.Given as goal

abbrev pub invariant-loop-d : goal.invariant-loop-d
invariant-loop-d l = record {
  none : (i : ℕ) → i < l.d-index → get_or l.components.numbers (get_or (row l.components.deps l.fn.n) i 0) 0 ≢ l.own;
  above : l.height ≡ above_all (map (slice_index l.heights) (take l.d-index (row l.components.deps l.fn.n)));
  bounded : l.height ≤ l.own;
}

use Rattle.std.proofs.Common.{◌≡◌, ◌<◌, ℕ, take, true}
use Rattle.edges.specs.Rows.{has}
use Rattle.components.proofs.found.is_row_inside.Given as goal

abbrev pub invariant-loop-d : goal.invariant-loop-d
invariant-loop-d l = record {
  inside : (d : ℕ) → has (take l.d-index l.list) d ≡ true → d < l.nodes;
}

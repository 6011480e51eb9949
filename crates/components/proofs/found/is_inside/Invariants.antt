use Rattle.std.proofs.Common.{◌<◌, ℕ, length}
use Rattle.edges.specs.Rows.{row}
use Rattle.components.specs.Components.{IsRowInside}
use Rattle.components.proofs.found.is_inside.Given as goal

abbrev pub invariant-loop-n : goal.invariant-loop-n
invariant-loop-n l = record {
  inside : (n : ℕ) → n < l.n → IsRowInside (row l.deps n) (length l.deps);
}

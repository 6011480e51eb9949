use Rattle.std.proofs.Common.{length, take}
use Rattle.edges.specs.Rows.{IsRow}
use Rattle.edges.proofs.Marks.{Marked}
use Rattle.edges.proofs.graph_test.mark_row.Given as goal

abbrev pub invariant-loop-node : goal.invariant-loop-node
invariant-loop-node l = record {
  marked : Marked l.mark l.initial.marks l.list l.node-index l.marks;
  row : IsRow (length l.initial.marks) (take l.node-index l.list);
}

use Rattle.std.proofs.Common.{take}
use Rattle.load_graph.specs.Paths.{AreNumbers}
use Rattle.load_graph.proofs.Naming.{named}
use Rattle.load_graph.proofs.rows.row_of.Given as goal

abbrev pub invariant-loop-load : goal.invariant-loop-load
invariant-loop-load l = record {
  numbers : AreNumbers l.paths (named l.paths (take l.load-index l.loads)) l.row.items;
}

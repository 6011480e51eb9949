use Rattle.std.specs.Prelude.{All}
use Rattle.packing.specs.Folders.{IsFound}
use Rattle.packing.specs.Refusals.{IsSize}
use Rattle.packing.proofs.whole.sizes_of.Given as goal

abbrev pub invariant-loop-path : goal.invariant-loop-path
invariant-loop-path g l = record {
  goes : (goal.iterator-loop-path g).can_next l.path-iterator;
  ends : (goal.iterator-loop-path g).is_finite l.path-iterator;
  found : All (IsFound (g.F.Folder.at l.fn.folder)) l.path-iterator;
  each : All (IsSize (g.F.Folder.at l.fn.folder)) l.sizes.items;
}

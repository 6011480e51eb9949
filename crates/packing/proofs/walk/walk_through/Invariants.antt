use Rattle.packing.specs.Walks.{IsBegun}
use Rattle.packing.proofs.walk.walk_through.Given as goal

abbrev pub invariant-loop : goal.invariant-loop
invariant-loop g l = IsBegun (g.F.Folder.at l.fn.folder) l.walk

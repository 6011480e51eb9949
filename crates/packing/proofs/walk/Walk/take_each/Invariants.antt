use Rattle.std.proofs.Common.{take, List, ℕ}
use Rattle.std.specs.Prelude.{Contains}
use Rattle.packing.specs.Folders.{IsListed}
use Rattle.packing.specs.Walks.{CoversName, Grows, Stays}
use Rattle.packing.proofs.walk.Walk.take_each.Given as goal

abbrev pub invariant-loop-name : goal.invariant-loop-name
invariant-loop-name g l = record {
  grows : Grows (g.F.Folder.at l.fn.folder) l.fn.self l.self;
  covers : (name : List ℕ) → Contains (take l.name-index l.names) name → CoversName (g.F.Folder.at l.fn.folder) l.self l.fn.from name;
  only : ((name : List ℕ) → Contains l.names name → IsListed (g.F.Folder.at l.fn.folder) l.fn.from name)
      → Stays (g.F.Folder.at l.fn.folder) l.fn.self l.self;
}

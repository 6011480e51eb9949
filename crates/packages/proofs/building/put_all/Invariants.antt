use Rattle.std.proofs.Common.{drop}
use Rattle.packages.specs.Built.{AreBuiltFrom}
use Rattle.packages.specs.Kept.{IsSoFar}
use Rattle.packages.proofs.building.put_all.Given as goal

abbrev pub invariant-loop-one : goal.invariant-loop-one
invariant-loop-one l = record {
  built : AreBuiltFrom l.files.files l.files.limit l.place l.one-iterator.rest.items;
  so_far : IsSoFar l.files.files l.files.limit (drop l.place l.paths) l.rest l.declared.packages.entries l.declared.faults.items;
}

use Rattle.std.proofs.Common.{take}
use Rattle.claims.specs.Sets.{AreSetsOf}
use Rattle.claims.proofs.sets.found.Given as goal

abbrev pub invariant-loop-bucket : goal.invariant-loop-bucket
invariant-loop-bucket l = AreSetsOf (take l.bucket-index l.buckets) l.found.items

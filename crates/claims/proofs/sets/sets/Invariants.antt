use Rattle.std.proofs.Common.{take}
use Rattle.std.specs.List.{AllZip}
use Rattle.claims.specs.Sets.{IsSetOf}
use Rattle.claims.proofs.sets.sets.Given as goal

abbrev pub invariant-loop-bucket : goal.invariant-loop-bucket
invariant-loop-bucket l = AllZip IsSetOf (take l.bucket-index l.buckets) l.sets.items

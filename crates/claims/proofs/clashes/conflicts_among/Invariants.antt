use Rattle.std.proofs.Common.{◌≡◌, take, flat_map}
use Rattle.claims.specs.Conflicts.{conflict_by}
use Rattle.claims.proofs.clashes.conflicts_among.Given as goal

abbrev pub invariant-loop-common : goal.invariant-loop-common
invariant-loop-common l = l.found.items ≡ flat_map (conflict_by l.leaders) (take l.common-index l.commons)

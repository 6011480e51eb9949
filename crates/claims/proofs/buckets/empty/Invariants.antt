use Rattle.std.proofs.Common.{◌≡◌, map, take}
use Rattle.claims.specs.Buckets.{no_members}
use Rattle.claims.proofs.buckets.empty.Given as goal

abbrev pub invariant-loop-one : goal.invariant-loop-one
invariant-loop-one l = l.buckets.items ≡ map no_members (take l._one-index l.owned)

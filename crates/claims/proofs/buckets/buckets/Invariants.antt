use Rattle.std.proofs.Common.{◌≡◌, drop, map}
use Rattle.claims.specs.Buckets.{no_members, put_all}
use Rattle.claims.proofs.buckets.buckets.Given as goal

abbrev pub invariant-loop-place : goal.invariant-loop-place
invariant-loop-place l = put_all l.leaders l.buckets.items l.place (drop l.place l.owned) ≡ put_all l.leaders (map no_members l.owned) 0 l.owned

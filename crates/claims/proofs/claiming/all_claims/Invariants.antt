use Rattle.std.proofs.Common.{◌≡◌, ◌++◌, drop}
use Rattle.claims.specs.Claims.{claims_from}
use Rattle.claims.proofs.claiming.all_claims.Given as goal

abbrev pub invariant-loop-place : goal.invariant-loop-place
invariant-loop-place l = l.claims.items ++ claims_from l.place (drop l.place l.owned) ≡ claims_from 0 l.owned

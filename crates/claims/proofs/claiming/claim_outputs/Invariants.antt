use Rattle.std.proofs.Common.{◌≡◌, ◌++◌, drop, map}
use Rattle.claims.specs.Claims.{claim_on}
use Rattle.claims.proofs.claiming.claim_outputs.Given as goal

abbrev pub invariant-loop-file : goal.invariant-loop-file
invariant-loop-file l =
    l.claims.items ++ map (claim_on l.place l.label) (drop l.file-index l.files) ≡ l.initial.claims.items ++ map (claim_on l.place l.label) l.files

use Rattle.std.proofs.Common.{◌≡◌, drop}
use Rattle.claims.specs.Leaders.{all_lead}
use Rattle.claims.proofs.clashes.all_lead.Given as goal

abbrev pub invariant-loop-place : goal.invariant-loop-place
invariant-loop-place l = all_lead l.place (drop l.place l.leaders) ≡ all_lead 0 l.leaders

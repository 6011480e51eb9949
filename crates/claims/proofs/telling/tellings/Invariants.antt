use Rattle.std.proofs.Common.{◌≡◌, ◌++◌, drop}
use Rattle.claims.specs.Tellings.{tellings_from}
use Rattle.claims.proofs.telling.tellings.Given as goal

abbrev pub invariant-loop-place : goal.invariant-loop-place
invariant-loop-place l = l.tellings.items ++ tellings_from l.leaders l.sets l.place (drop l.place l.owned) ≡ tellings_from l.leaders l.sets 0 l.owned

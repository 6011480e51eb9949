use Rattle.std.proofs.Common.{◌≡◌, ◌++◌, [], drop}
use Rattle.depsets.specs.Listed.{walked}
use Rattle.claims.specs.Leaders.{leaders_from}
use Rattle.claims.proofs.leaders.leaders.Given as goal

abbrev pub invariant-loop-place : goal.invariant-loop-place
invariant-loop-place l = l.leaders.items ++ leaders_from walked l.marks l.firsts l.place (drop l.place l.owned) ≡ leaders_from walked l.marks [] 0 l.owned

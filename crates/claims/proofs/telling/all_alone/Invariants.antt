use Rattle.std.proofs.Common.{◌≡◌, map, take}
use Rattle.claims.specs.Tellings.{alone}
use Rattle.claims.proofs.telling.all_alone.Given as goal

abbrev pub invariant-loop-one : goal.invariant-loop-one
invariant-loop-one l = l.tellings.items ≡ map alone (take l._one-index l.owned)

use Rattle.std.proofs.Common.{◌≡◌, map, take}
use Rattle.claims.specs.Marks.{is_bare}
use Rattle.claims.proofs.marks.bare.Given as goal

abbrev pub invariant-loop-one : goal.invariant-loop-one
invariant-loop-one l = l.marks.items ≡ map is_bare (take l.one-index l.owned)

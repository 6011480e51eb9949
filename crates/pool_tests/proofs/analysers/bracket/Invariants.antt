use Rattle.std.proofs.Common.{◌≡◌, ◌∷◌, map, take}
use Rattle.pool_tests.specs.Examples.{joined}
use Rattle.pool_tests.proofs.analysers.bracket.Given as goal

abbrev pub invariant-loop-i : goal.invariant-loop-i
invariant-loop-i l = l.bytes.items ≡ 91 ∷ joined (take l.i (map (λ r. r.now) l.values))

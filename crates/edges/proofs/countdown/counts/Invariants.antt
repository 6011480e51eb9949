use Rattle.std.proofs.Common.{◌≡◌, length, map, take}
use Rattle.edges.proofs.countdown.counts.Given as goal

abbrev pub invariant-loop-n : goal.invariant-loop-n
invariant-loop-n l = l.left.items ≡ map length (take l.n l.deps)

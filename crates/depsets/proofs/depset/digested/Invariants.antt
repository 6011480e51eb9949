use Rattle.std.proofs.Common.{◌≡◌}
use Rattle.depsets.proofs.depset.digested.Given as goal

abbrev pub invariant-loop-element : goal.invariant-loop-element
invariant-loop-element l = l.all.items ≡ l.yielded

use Rattle.std.proofs.Common.{◌≡◌, length}
use Rattle.modules.proofs.load.nothing.Given as goal

abbrev pub invariant-loop : goal.invariant-loop
invariant-loop g l = length l.done.items ≡ l.counter

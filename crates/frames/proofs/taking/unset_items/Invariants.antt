use Rattle.std.proofs.Common.{◌≡◌, length}
use Rattle.frames.proofs.taking.unset_items.Given as goal

abbrev pub invariant-loop : goal.invariant-loop
invariant-loop l = length l.items ≡ l.counter

use Rattle.std.proofs.Common.{◌≡◌, ◌++◌, ◌-◌, None}
use Rattle.std.specs.Prelude.{replicate}
use Rattle.call_stack.proofs.filling.pad.Given as goal

abbrev pub invariant-loop : goal.invariant-loop
invariant-loop l = l.slots ++ replicate (l.count - l.counter) None ≡ l.fn.slots ++ replicate l.count None

use Rattle.std.proofs.Common.{◌≡◌, ◌-◌}
use Rattle.frames.specs.Popped.{popped}
use Rattle.frames.proofs.taking.take.Given as goal

abbrev pub invariant-loop : goal.invariant-loop
invariant-loop l = popped l.count l.fn.taken l.fn.values ≡ popped (l.count - l.counter) l.taken l.values

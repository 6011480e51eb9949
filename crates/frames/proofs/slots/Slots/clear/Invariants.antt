use Rattle.std.proofs.Common.{◌≡◌, ◌-◌}
use Rattle.meaning.specs.Outcome.{cleared}
use Rattle.frames.proofs.slots.Slots.clear.Given as goal

abbrev pub invariant-loop-slot : goal.invariant-loop-slot
invariant-loop-slot l = cleared (l.end - l.slot) l.slot l.self ≡ cleared (l.end - l.first) l.first l.fn.self

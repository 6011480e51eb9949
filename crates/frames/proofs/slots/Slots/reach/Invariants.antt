use Rattle.std.proofs.Common.{◌≡◌, suc, ◌-◌, length}
use Rattle.std.specs.Prelude.{Option}
use Rattle.meaning.specs.Outcome.{put}
use Rattle.values.specs.declared.value.Value as held
use Rattle.frames.proofs.slots.Slots.reach.Given as goal

abbrev pub invariant-loop-self : goal.invariant-loop-self
invariant-loop-self l = (v : Option held.Value) → put l.slot v l.self ≡ put l.slot v l.fn.self

abbrev pub decreases-loop-self : goal.decreases-loop-self
decreases-loop-self l = suc l.slot - length l.self

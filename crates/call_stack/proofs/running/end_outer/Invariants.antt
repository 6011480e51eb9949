use Rattle.std.proofs.Common.{◌≡◌, length}
use Rattle.std.specs.Prelude.{map}
use Rattle.meaning.specs.Machine.{all_ended}
use Rattle.frames.specs.Seen.{walk_seen}
use Rattle.call_stack.proofs.running.end_outer.Given as goal

abbrev pub invariant-loop-walk : goal.invariant-loop-walk
invariant-loop-walk g l =
    all_ended (g.W.Operate.operations l.world) (map (walk_seen g.W.Operate.rest) l.walks) l.state
    ≡ all_ended (g.W.Operate.operations l.world) (map (walk_seen g.W.Operate.rest) l.fn.walks) l.fn.state

abbrev pub decreases-loop-walk : goal.decreases-loop-walk
decreases-loop-walk g l = length l.walks

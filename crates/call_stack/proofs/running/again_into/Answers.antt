use Rattle.std.specs.Prelude.{map}
use Rattle.call_stack.specs.ActiveView.{ids_seen}
use Rattle.call_stack.specs.CallView.{frame_seen}
use Rattle.call_stack.proofs.running.again_into.Goals as goal

pub returns-else-is_none : goal.returns-else-is_none
returns-else-is_none g c codes =
    rw c.deref_mut.ensures.value at (c.again_into.ensures codes (map (frame_seen g.W.Operate.rest) c.args.r.now.below) (ids_seen c.args.r.now.active))

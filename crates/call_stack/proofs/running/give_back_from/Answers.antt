use Rattle.std.proofs.Common.{refl}
use Rattle.std.specs.Prelude.{map}
use Rattle.code.specs.View.{source_seen}
use Rattle.meaning.specs.Machine.{outer}
use Rattle.meaning.specs.Performing.{fetch}
use Rattle.frames.specs.Seen.{here_of}
use Rattle.call_stack.specs.ActiveView.{ids_seen}
use Rattle.call_stack.specs.CallView.{frame_seen}
use Rattle.call_stack.proofs.Moving.{moves_same, gives_found}
use Rattle.call_stack.proofs.running.give_back_from.Goals as goal

pub returns : goal.returns
returns g c codes =
    let rest = g.W.Operate.rest in
    let ops = g.W.Operate.operations c.args.world.now in
    let r = c.args.r.now in
    let here = here_of r.top.value c.args.line (ids_seen r.active) in
    let found = rw c.in-Some.is at c.in_ok-value.ensures in
    moves_same rest _ _ c.leave_with.result c.leave_with.new.r c.end_walks.new.state
    (gives_found rest ops (fetch ops here (source_seen c.args.source) r.top.value.slots c.args.state.now) r.top.value.slots c.in-Some.value
    r.top.value.walk r.top.value.walk r.top.value.outer c.args.state.now c.end_walks.new.state (map (frame_seen rest) r.below) (outer (ids_seen r.active))
    (rw c.deref_mut-top.ensures.value at (found here c.args.state.now)) refl (rw c.deref_mut-top.ensures.value at c.end_walks.ensures))
    (c.leave_with.ensures c.end_walks.new.state)

use Rattle.std.proofs.Common.{refl}
use Rattle.std.specs.Prelude.{map}
use Rattle.meaning.specs.Machine.{outer}
use Rattle.call_stack.specs.ActiveView.{ids_seen}
use Rattle.call_stack.specs.CallView.{frame_seen}
use Rattle.call_stack.proofs.Moving.{moves_same, gives_top}
use Rattle.call_stack.proofs.running.give_back.Goals as goal

pub returns : goal.returns
returns g c codes =
    let rest = g.W.Operate.rest in
    let r = c.args.r.now in
    moves_same rest _ _ c.leave_with.result c.leave_with.new.r c.end_walks.new.state
    (gives_top rest (g.W.Operate.operations c.args.world.now) r.top.value.values c.pop.new.self c.in-Some.value r.top.value.walk r.top.value.walk
    r.top.value.outer c.args.state.now c.end_walks.new.state (map (frame_seen rest) r.below) (outer (ids_seen r.active))
    (rw c.deref_mut-top.ensures.value at c.in-Some.ensures) refl (rw c.deref_mut-top.ensures.value at c.end_walks.ensures))
    (c.leave_with.ensures c.end_walks.new.state)

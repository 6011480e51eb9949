use Rattle.std.proofs.Common.{◌≡◌, ◌∙◌, suc, ◌+◌, ◌∷◌, ap, arith}
use Rattle.std.specs.Prelude.{map}
use Rattle.meaning.specs.Machine.{start}
use Rattle.frames.specs.Answers.{callee_seen}
use Rattle.frames.specs.Seen.{here_of}
use Rattle.call_stack.specs.ActiveView.{ids_seen}
use Rattle.call_stack.specs.CallView.{arguments_seen, frame_seen}
use Rattle.call_stack.specs.LinkedView.{codes_of}
use Rattle.call_stack.specs.RunView.{Calling, asked}
use Rattle.call_stack.proofs.Moving.{moves_same}
use Rattle.call_stack.proofs.running.call_taken.Goals as goal

pub returns-in_default : goal.returns-in_default
returns-in_default g c =
    let rest = g.W.Operate.rest in
    let ops = g.W.Operate.operations c.args.world.now in
    let r = c.args.r.now in
    let here = here_of r.top.value c.args.line (ids_seen r.active) in
    let f = frame_seen rest r.top in
    let go : Calling g.row.W-State.Denot = λ x a os gs.
    start ops (codes_of c.args.linked.now) here x a (record f { pc = suc r.top.value.place; values = os; callees = gs } ∷ map (frame_seen rest) r.below) c.args.state.now in
    (rw c.deref_mut-top.ensures.value at (c.in_ok-asked.ensures.asks go r.top.value.callees)) ∙ ap (λ o. asked o c.take_call.new.values r.top.value.callees go) c.in_default.is

pub returns : goal.returns
returns g c =
    let rest = g.W.Operate.rest in
    let ops = g.W.Operate.operations c.args.world.now in
    let r = c.args.r.now in
    let here = here_of r.top.value c.args.line (ids_seen r.active) in
    let f = frame_seen rest r.top in
    let go : Calling g.row.W-State.Denot = λ x a os gs.
    start ops (codes_of c.args.linked.now) here x a (record f { pc = suc r.top.value.place; values = os; callees = gs } ∷ map (frame_seen rest) r.below) c.args.state.now in
    let k : suc r.top.value.place ≡ r.top.value.place + 1 = omega arith in
    moves_same rest _ _ c.call_asked.result c.call_asked.new.r c.call_asked.new.state
    ((rw c.deref_mut-top.ensures.value at (c.in_ok-asked.ensures.asks go r.top.value.callees)) ∙ (ap (λ o. asked o c.take_call.new.values r.top.value.callees go) c.in-Some.is
    ∙ ap (λ n. start ops (codes_of c.args.linked.now) here (callee_seen c.in-Some.asked.callee) (arguments_seen c.in-Some.asked.arguments)
    (record f { pc = n; values = c.take_call.new.values } ∷ map (frame_seen rest) r.below) c.args.state.now) k)) (rw (c.deref_mut-top.ensures.value, c.in_ok-asked.ensures.same) at c.call_asked.ensures)

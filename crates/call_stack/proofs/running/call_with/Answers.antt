use Rattle.std.proofs.Common.{◌≡◌, ◌∙◌, ◌≤◌, [], ◌∷◌, suc, Some, sym, ap, drop, length, arith}
use Rattle.std.specs.Prelude.{map, option_map}
use Rattle.meaning.specs.Entry.{called}
use Rattle.meaning.specs.Machine.{start, starts}
use Rattle.frames.specs.Answers.{callee_seen, id_seen}
use Rattle.frames.specs.Seen.{here_of}
use Rattle.call_stack.specs.ActiveView.{ids_seen}
use Rattle.call_stack.specs.CallView.{frame_seen}
use Rattle.call_stack.specs.Filled.{by_position, top_of}
use Rattle.call_stack.specs.LinkedView.{codes_of}
use Rattle.call_stack.specs.RunView.{Calling}
use Rattle.call_stack.proofs.CallSteps.{starts_called}
use Rattle.call_stack.proofs.Moving.{moves_same}
use Rattle.call_stack.proofs.Positions.{call_takes, taking, taking_none}
use Rattle.call_stack.proofs.running.call_with.Goals as goal

pub returns-in_default : goal.returns-in_default
returns-in_default g c =
    let rest = g.W.Operate.rest in
    let ops = g.W.Operate.operations c.args.world.now in
    let codes = codes_of c.args.linked.now in
    let names = c.args.names.now in
    let n = c.args.count in
    let r = c.args.r.now in
    let values = r.top.value.values in
    let here = here_of r.top.value c.args.line (ids_seen r.active) in
    let f = frame_seen rest r.top in
    let go : Calling g.row.W-State.Denot = λ x a os gs.
    start ops codes here x a (record f { pc = suc r.top.value.place; values = os; callees = gs } ∷ map (frame_seen rest) r.below) c.args.state.now in
    let e = rw (c.deref_mut-top.ensures.value, c.in_default.is) at c.pop.ensures in
    taking_none names n values go (map callee_seen r.top.value.callees) (ap (map callee_seen) e.0)

pub returns-in-Some-code_for : goal.returns-in-Some-code_for
returns-in-Some-code_for g c =
    let rest = g.W.Operate.rest in
    let ops = g.W.Operate.operations c.args.world.now in
    let codes = codes_of c.args.linked.now in
    let names = c.args.names.now in
    let n = c.args.count in
    let r = c.args.r.now in
    let values = r.top.value.values in
    let here = here_of r.top.value c.args.line (ids_seen r.active) in
    let f = frame_seen rest r.top in
    let go : Calling g.row.W-State.Denot = λ x a os gs.
    start ops codes here x a (record f { pc = suc r.top.value.place; values = os; callees = gs } ∷ map (frame_seen rest) r.below) c.args.state.now in
    let s = c.args.state.now in
    let fn = id_seen c.in-Some-code_for.written.function in
    let a = by_position (top_of n [] values) in
    let gs = map callee_seen c.pop.new.self in
    let x = callee_seen c.in-Some.callee in
    let below = record f { pc = suc r.top.value.place; values = drop n values; callees = gs } ∷ map (frame_seen rest) r.below in
    let off : r.top.value.callees ≡ c.in-Some.callee ∷ c.pop.new.self = rw c.deref_mut-top.ensures.value at c.in-Some.ensures in
    let e : called ops x ≡ Some fn = sym c.function_of-known.ensures ∙ ap (option_map id_seen) c.in-Some-code_for.ensures.function in
    let l = rw c.deref_mut-top.ensures.value at c.len.ensures in
    let enough : n ≤ length values = omega (arith, l, c.in-Some-code_for.ensures.enough) in
    moves_same rest _ _ c.go_into.result c.go_into.new.r c.go_into.new.state
    (call_takes names n values (map callee_seen r.top.value.callees) gs x go c.in-Some-code_for.ensures.bare enough (ap (map callee_seen) off)
    ∙ (starts_called ops codes here x fn a below s e
    ∙ ap (starts ops codes here fn a below s) c.in-Some-code_for.ensures.code))
    (rw c.deref_mut-top.ensures.value at (c.go_into.ensures codes))

pub returns-in-None : goal.returns-in-None
returns-in-None g c =
    let rest = g.W.Operate.rest in
    let ops = g.W.Operate.operations c.args.world.now in
    let codes = codes_of c.args.linked.now in
    let names = c.args.names.now in
    let n = c.args.count in
    let r = c.args.r.now in
    let values = r.top.value.values in
    let here = here_of r.top.value c.args.line (ids_seen r.active) in
    let f = frame_seen rest r.top in
    let go : Calling g.row.W-State.Denot = λ x a os gs.
    start ops codes here x a (record f { pc = suc r.top.value.place; values = os; callees = gs } ∷ map (frame_seen rest) r.below) c.args.state.now in
    let off : r.top.value.callees ≡ c.in-Some.callee ∷ c.pop.new.self = rw c.deref_mut-top.ensures.value at c.in-Some.ensures in
    moves_same rest _ _ c.call_taken.result c.call_taken.new.r c.call_taken.new.state
    (ap (taking names n values go) (ap (map callee_seen) off))
    (rw c.deref_mut-top.ensures.value at c.call_taken.ensures)

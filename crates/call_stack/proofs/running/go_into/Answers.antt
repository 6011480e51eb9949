use Rattle.std.proofs.Common.{◌≡◌, ◌∙◌, ◌∷◌, suc, ◌+◌, drop, sym, ap₂, arith}
use Rattle.std.proofs.lemmas.Result.{err_from_is_err_and}
use Rattle.std.specs.Prelude.{map}
use Rattle.meaning.specs.Machine.{continuing}
use Rattle.call_stack.specs.ActiveView.{ids_seen}
use Rattle.call_stack.specs.CallView.{frame_seen}
use Rattle.call_stack.proofs.Moving.{moves_same}
use Rattle.call_stack.proofs.running.go_into.Goals as goal

pub returns : goal.returns
returns g c codes =
    let rest = g.W.Operate.rest in
    let r = c.args.r.now in
    let f = frame_seen rest r.top in
    let k : suc r.top.value.place ≡ r.top.value.place + 1 = omega arith in
    moves_same rest _ _ c.go_on.result c.go_on.new.r c.call_by_position.new.state
    ((rw c.deref_mut-top.ensures.value at (c.in_ok-frame.ensures.begins codes (record f { pc = suc r.top.value.place; values = drop c.args.count r.top.value.values } ∷ map (frame_seen rest) r.below)))
    ∙ ap₂ (λ n vs. continuing (frame_seen rest c.in_ok-frame.frame) (record f { pc = n; values = vs } ∷ map (frame_seen rest) r.below) (ids_seen c.call_by_position.new.active) c.call_by_position.new.state)
    k (sym (rw c.deref_mut-top.ensures.value at c.in_ok-frame.ensures.left)))
    (rw c.deref_mut-top.ensures.value at (c.go_on.ensures c.call_by_position.new.state))

pub returns-in_err-frame : goal.returns-in_err-frame
returns-in_err-frame g c codes =
    let rest = g.W.Operate.rest in
    let r = c.args.r.now in
    let f = frame_seen rest r.top in
    let same = err_from_is_err_and c.from_residual.result c.from_residual.ensures.1 in
    rw (same.1, same.2)
    (rw c.deref_mut-top.ensures.value at (c.in_err-frame.ensures.begins codes (record f { pc = suc r.top.value.place; values = drop c.args.count r.top.value.values } ∷ map (frame_seen rest) r.below)))

use Rattle.std.proofs.Common.{◌≡◌, ◌∙◌, sym, ap, subst, Some}
use Rattle.std.proofs.lemmas.Result.{err_from_is_err_and}
use Rattle.std.specs.Prelude.{option_map}
use Rattle.meaning.specs.Entry.{called}
use Rattle.frames.specs.Answers.{callee_seen, id_seen}
use Rattle.frames.specs.Seen.{Stops}
use Rattle.call_stack.specs.ActiveView.{ids_seen}
use Rattle.call_stack.specs.CallView.{arguments_seen, here_at}
use Rattle.call_stack.specs.LinkedView.{codes_of}
use Rattle.call_stack.proofs.CallSteps.{starts_called}
use Rattle.call_stack.proofs.calling.call_known.Goals as goal

pub returns-in_err-frame : goal.returns-in_err-frame
returns-in_err-frame g c below =
    let ops = g.W.Operate.operations c.args.world.now in
    let e : called ops (callee_seen c.args.callee.now) ≡ Some (id_seen c.in-Some.function) =
    sym c.requires ∙ ap (option_map id_seen) c.in-Some.is in
    let same = err_from_is_err_and c.from_residual.result c.from_residual.ensures.1 in
    rw (same.1, same.2) (
    subst (λ z. Stops z c.in_err-frame.field-0.0)
    (sym (starts_called ops (codes_of c.args.linked.now) (here_at c.args.place (ids_seen c.args.active.now)) (callee_seen c.args.callee.now)
    (id_seen c.in-Some.function) (arguments_seen c.args.arguments) below c.args.state.now e))
    (c.in_err-frame.ensures below))

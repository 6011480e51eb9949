use Rattle.std.proofs.Common.{◌≡◌, ◌∙◌, sym, ap, subst, Some}
use Rattle.std.specs.Prelude.{option_copied}
use Rattle.meaning.specs.Entry.{entry}
use Rattle.meaning.specs.Instructions.{code_at}
use Rattle.meaning.specs.Machine.{starting, starts}
use Rattle.frames.specs.Answers.{id_seen}
use Rattle.call_stack.specs.ActiveView.{ids_seen}
use Rattle.call_stack.specs.CallView.{Begins, arguments_seen, here_at}
use Rattle.call_stack.specs.Filled.{fitting}
use Rattle.call_stack.specs.LinkedView.{codes_of}
use Rattle.call_stack.proofs.CallSteps.{begins_same, starts_fits}
use Rattle.call_stack.proofs.calling.call_function.Goals as goal

pub returns : goal.returns
returns g c =
    let ops = g.W.Operate.operations c.args.world.now in
    let codes = codes_of c.args.linked.now in
    let here = here_at c.args.place (ids_seen c.args.active.now) in
    let f = id_seen c.args.function in
    let a = arguments_seen c.args.arguments in
    let d = c.in-Some.code.now in
    let e : code_at codes f ≡ Some d = sym c.function.ensures ∙ ap option_copied c.in-Some.is in
    let t : entry d.params d.slots (ops.defaults f c.args.state.now) a ≡ Some c.slots_at_entry.new.slots =
    ap (λ x. entry x d.slots (ops.defaults f c.args.state.now) a) (sym c.params.ensures)
    ∙ (ap (λ x. entry c.params.result.now x (ops.defaults f c.args.state.now) a) (sym c.slots.ensures)
    ∙ (ap (λ x. entry c.params.result.now c.slots.result x a) (sym c.defaults-defaults.ensures)
    ∙ (sym c.in_ok-fits.ensures ∙ ap (λ b. fitting b c.slots_at_entry.new.slots) c.if-not-fits.false))) in
    begins_same g.W.Operate.rest (λ below. starts ops codes here f a below c.args.state.now (code_at codes f))
    (λ below. starting ops codes here f below c.args.state.now (Some c.slots_at_entry.new.slots)) c.enter.result (ids_seen c.enter.new.active) c.enter.new.state
    (λ below. starts_fits ops codes here f a below c.args.state.now (code_at codes f) d c.slots_at_entry.new.slots e t)
    (subst (λ xs. Begins g.W.Operate.rest (λ below. starting ops codes (here_at c.args.place (ids_seen xs)) f below c.args.state.now (Some c.slots_at_entry.new.slots))
    c.enter.result (ids_seen c.enter.new.active) c.enter.new.state) (c.keep_arguments.ensures ∙ c.spare.ensures) (c.enter.ensures codes))

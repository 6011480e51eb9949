use Rattle.std.proofs.Common.{◌∙◌, [], sym, ap, None}
use Rattle.std.specs.Prelude.{option_copied, replicate}
use Rattle.meaning.specs.Correct.{top_from}
use Rattle.meaning.specs.Machine.{continuing, frame_of, more}
use Rattle.meaning.specs.Operations.{FunctionId}
use Rattle.call_stack.specs.ActiveView.{ids_seen}
use Rattle.call_stack.specs.CallView.{frame_seen}
use Rattle.call_stack.specs.LinkedView.{codes_of}
use Rattle.call_stack.specs.RunView.{config_of}
use Rattle.machine.proofs.executing.begin_top.Goals as goal

pub returns : goal.returns
returns g c s =
    let ops = g.W.Operate.operations c.args.world.now in
    let rest = g.W.Operate.rest in
    let fn : FunctionId = record { file = c.args.file; number = 0 } in
    ap (top_from ops (codes_of c.args.linked.now) c.args.file s) (sym c.function.ensures ∙ ap option_copied c.in-Some.is)
    ∙ (ap (λ n. continuing (frame_of fn (replicate n None)) [] [] s) (sym c.slots.ensures)
    ∙ (ap (λ l. continuing (frame_of fn l) [] [] s) (sym c.in_ok-slots.ensures)
    ∙ (ap (λ l. continuing (frame_of fn l) [] [] s) (sym c.in_ok-frame.ensures)
    ∙ (ap (λ f. continuing f [] [] s) (sym (c.frame_at_entry-top.ensures rest))
    ∙ (ap (λ a. continuing (frame_seen rest c.frame_at_entry-top.result) [] (ids_seen a) s) (sym c.new-active.ensures)
    ∙ sym (ap (λ r. more (config_of rest r s)) c.alone.ensures))))))

use Rattle.std.proofs.Common.{◌∙◌, [], Ok, sym, ap, subst}
use Rattle.meaning.specs.Machine.{more, over, start}
use Rattle.frames.specs.Answers.{callee_seen}
use Rattle.frames.specs.Seen.{Stops}
use Rattle.call_stack.specs.ActiveView.{ids_seen}
use Rattle.call_stack.specs.CallView.{arguments_seen, entered, here_at}
use Rattle.call_stack.specs.LinkedView.{codes_of}
use Rattle.call_stack.specs.RunView.{config_of}
use Rattle.machine.proofs.executing.begin_call.Goals as goal

pub returns-in-Ok-Value : goal.returns-in-Ok-Value
returns-in-Ok-Value g c =
    ap (λ xs. start (g.W.Operate.operations c.args.world.now) (codes_of c.args.linked.now) (here_at c.args.place (ids_seen xs)) (callee_seen c.args.callee.now)
    (arguments_seen c.args.arguments) [] c.args.state.now) (sym c.new-active.ensures)
    ∙ (c.in-Ok-Value.ensures [] ∙ (ap (λ q. entered g.W.Operate.rest [] (ids_seen c.call.new.active) q c.call.new.state) c.in-Ok-Value.field-0-is
    ∙ ap (λ v. over (Ok (v, c.call.new.state))) (sym c.in_ok-into_value-in-Ok-Value.ensures)))

pub returns-in-Ok-Frame : goal.returns-in-Ok-Frame
returns-in-Ok-Frame g c =
    ap (λ xs. start (g.W.Operate.operations c.args.world.now) (codes_of c.args.linked.now) (here_at c.args.place (ids_seen xs)) (callee_seen c.args.callee.now)
    (arguments_seen c.args.arguments) [] c.args.state.now) (sym c.new-active.ensures)
    ∙ (c.in-Ok-Frame.ensures [] ∙ (ap (λ q. entered g.W.Operate.rest [] (ids_seen c.call.new.active) q c.call.new.state) c.in-Ok-Frame.field-0-is
    ∙ sym (ap (λ r. more (config_of g.W.Operate.rest r c.call.new.state)) c.alone.ensures)))

pub returns : goal.returns
returns g c =
    subst (λ xs. Stops (start (g.W.Operate.operations c.args.world.now) (codes_of c.args.linked.now) (here_at c.args.place (ids_seen xs))
    (callee_seen c.args.callee.now) (arguments_seen c.args.arguments) [] c.args.state.now) c.in-Err.stop) c.new-active.ensures (c.in-Err.ensures [])

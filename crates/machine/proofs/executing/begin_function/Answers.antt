use Rattle.std.proofs.Common.{◌∙◌, [], sym, ap, subst}
use Rattle.meaning.specs.Correct.{function_from}
use Rattle.meaning.specs.Instructions.{code_at}
use Rattle.meaning.specs.Machine.{more, starts}
use Rattle.frames.specs.Answers.{id_seen}
use Rattle.frames.specs.Seen.{Stops}
use Rattle.call_stack.specs.ActiveView.{ids_seen}
use Rattle.call_stack.specs.CallView.{arguments_seen, here_at}
use Rattle.call_stack.specs.LinkedView.{codes_of}
use Rattle.call_stack.specs.RunView.{config_of}
use Rattle.machine.proofs.executing.begin_function.Goals as goal

pub returns-in-Ok : goal.returns-in-Ok
returns-in-Ok g c =
    let ops = g.W.Operate.operations c.args.world.now in
    let codes = codes_of c.args.linked.now in
    let f = id_seen c.args.function in
    let a = arguments_seen c.args.arguments in
    ap (function_from ops codes f a c.args.state.now) (sym c.def_line.ensures ∙ c.in-Some.is)
    ∙ (ap (λ xs. starts ops codes (here_at (record { file = c.args.function.file; line = c.in-Some.line }) (ids_seen xs)) f a [] c.args.state.now (code_at codes f)) (sym c.new-active.ensures)
    ∙ (c.in-Ok.ensures [] ∙ sym (ap (λ r. more (config_of g.W.Operate.rest r c.call_function.new.state)) c.alone.ensures)))

pub returns : goal.returns
returns g c =
    let ops = g.W.Operate.operations c.args.world.now in
    let codes = codes_of c.args.linked.now in
    let f = id_seen c.args.function in
    let a = arguments_seen c.args.arguments in
    subst (λ z. Stops z c.in-Err.stop) (sym (
    ap (function_from ops codes f a c.args.state.now) (sym c.def_line.ensures ∙ c.in-Some.is)
    ∙ ap (λ xs. starts ops codes (here_at (record { file = c.args.function.file; line = c.in-Some.line }) (ids_seen xs)) f a [] c.args.state.now (code_at codes f)) (sym c.new-active.ensures)))
    (c.in-Err.ensures [])

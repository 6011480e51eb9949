use Rattle.std.proofs.Common.{◌∙◌, ap₂}
use Rattle.std.proofs.lemmas.Result.{IfOk-weaker}
use Rattle.clap.specs.Words.{with_rule}
use Rattle.request.specs.CommandLine.{command_line}
use Rattle.request.proofs.words.command.Goals as goal

pub returns : goal.returns
unfolding command_line
returns c =
    IfOk-weaker c.arg-3.result _ _ (λ r h. h.shape c.labels_argument.ensures.local
    ∙ ap₂ with_rule (c.in_ok-arg-2.ensures.shape c.steps_argument.ensures.local
    ∙ ap₂ with_rule (c.in_ok-arg.ensures.shape c.workers_argument.ensures.local
    ∙ ap₂ with_rule c.new.ensures.app c.workers_argument.ensures.rule) c.steps_argument.ensures.rule) c.labels_argument.ensures.rule) c.arg-3.ensures

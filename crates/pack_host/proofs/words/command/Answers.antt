use Rattle.std.proofs.Common.{◌≡◌, ◌∙◌, ap, ap₂, true}
use Rattle.std.proofs.lemmas.Result.{IfOk-weaker}
use Rattle.clap.specs.Simple.{Shape, app_of_fields, on_top}
use Rattle.clap.specs.Words.{app_of, with_rule}
use Rattle.pack_host.specs.CommandLine.{command_line, versioned}
use Rattle.pack_host.proofs.words.command.Goals as goal

pub returns : goal.returns
unfolding command_line
returns c =
    let told : app_of c.about.result ≡ versioned = ap app_of_fields c.about.ensures
    ∙ ap app_of_fields c.version.ensures
    ∙ ap (on_top (λ (s : Shape). record s { has_version = true })) c.new.ensures.app in
    IfOk-weaker c.arg-2.result _ _ (λ r h. h.shape c.strict_argument.ensures.local
    ∙ ap₂ with_rule (c.in_ok-arg.ensures.shape c.root_argument.ensures.local
    ∙ ap₂ with_rule told c.root_argument.ensures.rule) c.strict_argument.ensures.rule) c.arg-2.ensures

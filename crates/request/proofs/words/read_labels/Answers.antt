use Rattle.std.proofs.Common.{◌≡◌, ◌∙◌, ap, sym, Err, Some, List}
use Rattle.workspace.specs.Labels.{LabelParts}
use Rattle.workspace.specs.declared.labels.LabelRefused.TheVariants.{Illegal}
use Rattle.request.proofs.AskedLemmas.{each_label-refused, each_label-step}
use Rattle.request.proofs.words.read_labels.Goals as goal

pub returns-in-Err-clause-illegal : goal.returns-in-Err-clause-illegal
returns-in-Err-clause-illegal c e =
    let same : c.in-Err.refused ≡ Illegal = cc in
    each_label-refused c.args.texts.now c.loop-text.text-index _ c.loop-text-test.true (c.in-Err.ensures.illegal (ap (λ s. Err s) same))

pub loop-text-preserved : goal.loop-text-preserved
loop-text-preserved c =
    each_label-step c.args.texts.now c.loop-text.text-index _ c.loop-text.labels.items c.in-Ok.label c.loop-text-test.true c.loop-text.invariant c.in-Ok.ensures.ok
    ∙ ap (λ (ls : List LabelParts). Some ls) (sym c.in-Ok-push.ensures.items)

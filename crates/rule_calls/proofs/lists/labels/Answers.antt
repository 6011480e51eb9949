use Rattle.std.proofs.Common.{sym, ap, ◌∙◌, subst}
use Rattle.values.specs.declared.value.Value.{Value}
use Rattle.ticks.specs.Ticking.{FaultOr}
use Rattle.values.specs.Shape.{shape}
use Rattle.targets.specs.RuleCalls.{label_in}
use Rattle.rule_calls.specs.Each.{put_read}
use Rattle.rule_calls.proofs.Adding.{added-then, added-fault}
use Rattle.rule_calls.proofs.lists.labels.Goals as goal

pub returns-in-Err : goal.returns-in-Err
returns-in-Err c =
    let h = c.args.heap.now in let p = c.args.«package».now in
    let f = λ (v : Value). label_in h p (shape h v) in
    let ls = c.loop-item.labels in
    subst (λ r. FaultOr r c.in-Err.broken) c.loop-item.invariant
    (added-fault f c.in-Some.ensures.steps ls c.in-Err.broken
    (subst (λ s. FaultOr (put_read ls (label_in h p s)) c.in-Err.broken) c.see_item-value.ensures c.in-Err.ensures))

pub loop-item-preserved : goal.loop-item-preserved
loop-item-preserved c =
    let h = c.args.heap.now in let p = c.args.«package».now in
    let f = λ (v : Value). label_in h p (shape h v) in
    let ls = c.loop-item.labels in
    sym (added-then f c.in-Some.ensures.steps ls c.put_label.new.labels
    (ap (λ s. put_read ls (label_in h p s)) (sym c.see_item-value.ensures) ∙ c.in_default.ensures))
    ∙ c.loop-item.invariant

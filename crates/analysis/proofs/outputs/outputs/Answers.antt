use Rattle.std.proofs.Common.{◌∙◌, List, ap, subst}
use Rattle.actions.specs.declared.action.Action.{Action}
use Rattle.depsets.specs.declared.element.FileRef.{FileRef}
use Rattle.analysis.specs.Made.{HasMore}
use Rattle.analysis.proofs.Making.{made_none, made_step}
use Rattle.analysis.proofs.outputs.outputs.Goals as goal

pub loop-action-init : goal.loop-action-init
loop-action-init c = made_none c.new-made.result c.new-made.ensures.empty

pub loop-action-preserved : goal.loop-action-preserved
loop-action-preserved c =
    made_step c.args.actions.now c.loop-action.action-index c.action-item.result c.loop-action.made c.put_outputs.new.made c.loop-action-test.true c.loop-action.invariant
    (subst (λ (fs : List FileRef). HasMore fs c.loop-action.made c.put_outputs.new.made) (c.as_slice.ensures ∙ ap (λ (a : Action). a.outputs) c.action-item.is) c.in_ok-put_outputs.ensures)

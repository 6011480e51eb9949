use Rattle.std.proofs.Common.{sym, ap, ◌∙◌, subst}
use Rattle.ticks.specs.Ticking.{FaultOr}
use Rattle.values.specs.Shape.{shape}
use Rattle.operations.specs.Depsets.{put_last}
use Rattle.making.proofs.Gathers.{gathered-then, gathered-fault}
use Rattle.contexts.specs.Actions.{file_in}
use Rattle.implementations.proofs.parts.files.Goals as goal

pub returns-in-Err : goal.returns-in-Err
returns-in-Err c =
    let xs = c.loop-item.files in
    subst (λ r. FaultOr r c.in-Err.broken) c.loop-item.invariant
    (gathered-fault (λ v xs. put_last xs (file_in (shape c.args.heap.now v))) c.in-Some.ensures.steps xs c.in-Err.broken
    (subst (λ s. FaultOr (put_last xs (file_in s)) c.in-Err.broken) c.see_item.ensures c.in-Err.ensures))

pub loop-item-preserved : goal.loop-item-preserved
loop-item-preserved c =
    let xs = c.loop-item.files in
    sym (gathered-then (λ v xs. put_last xs (file_in (shape c.args.heap.now v))) c.in-Some.ensures.steps xs c.put_file.new.files
    (ap (λ s. put_last xs (file_in s)) (sym c.see_item.ensures) ∙ c.in_default.ensures))
    ∙ c.loop-item.invariant

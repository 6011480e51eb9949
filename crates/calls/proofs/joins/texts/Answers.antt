use Rattle.std.proofs.Common.{map, sym, ap, ◌∙◌, subst}
use Rattle.ticks.specs.Ticking.{FaultOr}
use Rattle.values.specs.Shape.{shape}
use Rattle.operations.specs.Depsets.{put_last, gathered}
use Rattle.operations.specs.Reading.{string_in}
use Rattle.making.proofs.Gathers.{gathered-then, gathered-fault}
use Rattle.calls.proofs.joins.texts.Goals as goal

pub returns-in-Err : goal.returns-in-Err
returns-in-Err c =
    let xs = map (λ t. t.now) c.loop-item.texts.items in
    subst (λ r. FaultOr r c.in-Err.broken) c.loop-item.invariant
    (gathered-fault (λ v xs. put_last xs (string_in (shape c.args.heap.now v))) c.in-Some.ensures.steps xs c.in-Err.broken
    (subst (λ s. FaultOr (put_last xs (string_in s)) c.in-Err.broken) c.see_item.ensures c.in-Err.ensures))

pub loop-item-preserved : goal.loop-item-preserved
loop-item-preserved c =
    let xs = map (λ t. t.now) c.loop-item.texts.items in
    sym (gathered-then (λ v xs. put_last xs (string_in (shape c.args.heap.now v))) c.in-Some.ensures.steps xs (map (λ t. t.now) c.put_text.new.texts.items)
    (ap (λ s. put_last xs (string_in s)) (sym c.see_item.ensures) ∙ c.in_default.ensures))
    ∙ c.loop-item.invariant

use Rattle.std.proofs.Common.{sym, ap, ◌∙◌, subst}
use Rattle.ticks.specs.Ticking.{FaultOr}
use Rattle.values.specs.Shape.{shape}
use Rattle.operations.specs.Depsets.{put_last}
use Rattle.operations.specs.Reading.{string_in}
use Rattle.making.proofs.Gathers.{gathered-then, gathered-fault}
use Rattle.implementations.proofs.parts.put_strings.Goals as goal

pub returns-in-Err : goal.returns-in-Err
returns-in-Err c =
    let xs = c.loop-item.words in
    subst (λ r. FaultOr r c.in-Err.broken) c.loop-item.invariant
    (gathered-fault (λ v xs. put_last xs (string_in (shape c.args.heap.now v))) c.in-Some.ensures.steps xs c.in-Err.broken
    (subst (λ s. FaultOr (put_last xs (string_in s)) c.in-Err.broken) c.see_item.ensures c.in-Err.ensures))

pub loop-item-preserved : goal.loop-item-preserved
loop-item-preserved c =
    let xs = c.loop-item.words in
    sym (gathered-then (λ v xs. put_last xs (string_in (shape c.args.heap.now v))) c.in-Some.ensures.steps xs c.put_string.new.words
    (ap (λ s. put_last xs (string_in s)) (sym c.see_item.ensures) ∙ c.in_default.ensures))
    ∙ c.loop-item.invariant

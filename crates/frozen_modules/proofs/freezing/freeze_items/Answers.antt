use Rattle.std.proofs.Common.{◌+◌, drop, length, refl, ap, subst, ◌∙◌}
use Rattle.std.proofs.lemmas.Option.{slice_get_read}
use Rattle.ticks.specs.Ticking.{FaultOr}
use Rattle.values.specs.Visits.{all_of}
use Rattle.ticks.specs.declared.ticks.TheConstants.{VISITED_LEVELS}
use Rattle.visits.specs.Freeze.{freeze_at}
use Rattle.values.proofs.VisitLemmas.{with_done, all_of-next, all_of-fault}
use Rattle.frozen_modules.proofs.freezing.freeze_items.Goals as goal

pub returns-in-Err : goal.returns-in-Err
returns-in-Err c =
    let xs = c.args.values.now in
    let i = c.loop-value.value-index in
    let x = c.value-item.result in
    subst (λ r. FaultOr r c.in-Err.broken) c.loop-value.invariant
    (all_of-fault (freeze_at VISITED_LEVELS c.args.heap.now) xs i x (slice_get_read xs (length xs) i x refl c.loop-value-test.true c.value-item.is)
    c.loop-value.kept c.loop-value.ticks c.in-Err.broken c.in-Err.ensures)

pub loop-value-preserved : goal.loop-value-preserved
loop-value-preserved c =
    let one = freeze_at VISITED_LEVELS c.args.heap.now in
    let xs = c.args.values.now in
    let i = c.loop-value.value-index in
    let x = c.value-item.result in
    ap (λ l. with_done l (all_of one (drop (i + 1) xs) c.freeze_value.new.ticks)) c.in_ok-push-in-Ok.ensures.ok
    ∙ all_of-next one xs i x (slice_get_read xs (length xs) i x refl c.loop-value-test.true c.value-item.is)
    c.loop-value.kept c.loop-value.ticks c.in-Ok.tree c.freeze_value.new.ticks c.in-Ok.ensures
    ∙ c.loop-value.invariant

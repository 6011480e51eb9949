use Rattle.std.proofs.Common.{◌+◌, drop, length, refl, ap, subst, ◌∙◌}
use Rattle.std.proofs.lemmas.Option.{slice_get_read}
use Rattle.ticks.specs.Ticking.{FaultOr}
use Rattle.values.specs.Visits.{all_of}
use Rattle.ticks.specs.declared.ticks.TheConstants.{VISITED_LEVELS}
use Rattle.visits.specs.Freeze.{freeze_at, frozen_slot}
use Rattle.values.proofs.VisitLemmas.{with_done, all_of-next, all_of-fault}
use Rattle.frozen_modules.proofs.freezing.freeze_globals.Goals as goal

pub returns-in-Err : goal.returns-in-Err
returns-in-Err c =
    let xs = c.args.globals.now in
    let i = c.loop-slot.slot-index in
    let x = c.slot-item.result in
    subst (λ r. FaultOr r c.in-Err.broken) c.loop-slot.invariant
    (all_of-fault (frozen_slot (freeze_at VISITED_LEVELS c.args.heap.now)) xs i x (slice_get_read xs (length xs) i x refl c.loop-slot-test.true c.slot-item.is)
    c.loop-slot.kept.items c.loop-slot.ticks c.in-Err.broken c.in-Err.ensures)

pub loop-slot-preserved : goal.loop-slot-preserved
loop-slot-preserved c =
    let one = frozen_slot (freeze_at VISITED_LEVELS c.args.heap.now) in
    let xs = c.args.globals.now in
    let i = c.loop-slot.slot-index in
    let x = c.slot-item.result in
    ap (λ l. with_done l (all_of one (drop (i + 1) xs) c.freeze_slot.new.ticks)) c.in_ok-keep_slot-in-Ok.ensures
    ∙ all_of-next one xs i x (slice_get_read xs (length xs) i x refl c.loop-slot-test.true c.slot-item.is)
    c.loop-slot.kept.items c.loop-slot.ticks c.in-Ok.tree c.freeze_slot.new.ticks c.in-Ok.ensures
    ∙ c.loop-slot.invariant

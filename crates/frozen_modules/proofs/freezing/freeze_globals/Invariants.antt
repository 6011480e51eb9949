use Rattle.std.proofs.Common.{◌≡◌, drop}
use Rattle.values.specs.Visits.{all_of}
use Rattle.ticks.specs.declared.ticks.TheConstants.{VISITED_LEVELS}
use Rattle.visits.specs.Freeze.{freeze_at, frozen_slot}
use Rattle.values.proofs.VisitLemmas.{with_done}
use Rattle.frozen_modules.proofs.freezing.freeze_globals.Given as goal

abbrev pub invariant-loop-slot : goal.invariant-loop-slot
invariant-loop-slot l =
    let one = frozen_slot (freeze_at VISITED_LEVELS l.heap) in
    with_done l.kept.items (all_of one (drop l.slot-index l.globals) l.ticks) ≡ all_of one l.globals l.initial.ticks

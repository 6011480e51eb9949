use Rattle.std.proofs.Common.{◌≡◌, drop}
use Rattle.values.specs.Visits.{all_of}
use Rattle.ticks.specs.declared.ticks.TheConstants.{VISITED_LEVELS}
use Rattle.visits.specs.Freeze.{freeze_at}
use Rattle.values.proofs.VisitLemmas.{with_done}
use Rattle.frozen_modules.proofs.freezing.freeze_items.Given as goal

abbrev pub invariant-loop-value : goal.invariant-loop-value
invariant-loop-value l =
    let one = freeze_at VISITED_LEVELS l.heap in
    with_done l.kept (all_of one (drop l.value-index l.values) l.ticks) ≡ all_of one l.values l.initial.ticks

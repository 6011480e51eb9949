use Rattle.std.proofs.Common.{◌≡◌, ◌+◌, ◌*◌, drop}
use Rattle.values.specs.Visits.{all_of}
use Rattle.visits.specs.Freeze.{freeze_at, frozen_entry, frozen_slot}
use Rattle.ticks.specs.Ticking.{entered}
use Rattle.values.proofs.VisitLemmas.{with_done}
use Rattle.visits.proofs.freezes.+freeze.Given as goal

abbrev pub invariant-freeze_all-loop-value : goal.invariant-freeze_all-loop-value
invariant-freeze_all-loop-value l =
    with_done l.kept.items (all_of (freeze_at l.left l.heap) (drop l.value-index l.values) l.ticks)
    ≡ all_of (freeze_at l.left l.heap) l.values l.initial.ticks

abbrev pub invariant-freeze_entries-loop-i : goal.invariant-freeze_entries-loop-i
invariant-freeze_entries-loop-i l =
    with_done l.kept.items (all_of (frozen_entry (entered l.left) (freeze_at l.left l.heap)) (drop l.i l.entries) l.ticks)
    ≡ all_of (frozen_entry (entered l.left) (freeze_at l.left l.heap)) l.entries l.initial.ticks

abbrev pub invariant-freeze_slots-loop-field : goal.invariant-freeze_slots-loop-field
invariant-freeze_slots-loop-field l =
    with_done l.kept.items (all_of (frozen_slot (freeze_at l.left l.heap)) (drop l.field-index l.fields) l.ticks)
    ≡ all_of (frozen_slot (freeze_at l.left l.heap)) l.fields l.initial.ticks

abbrev pub decreases-freeze_cell : goal.decreases-freeze_cell
decreases-freeze_cell l = 6 * l.left

abbrev pub decreases-freeze_within : goal.decreases-freeze_within
decreases-freeze_within l = 6 * l.left + 1

abbrev pub decreases-freeze_entry : goal.decreases-freeze_entry
decreases-freeze_entry l = 6 * l.left + 2

abbrev pub decreases-freeze_all : goal.decreases-freeze_all
decreases-freeze_all l = 6 * l.left + 3

abbrev pub decreases-freeze_entries : goal.decreases-freeze_entries
decreases-freeze_entries l = 6 * l.left + 3

abbrev pub decreases-freeze_parts : goal.decreases-freeze_parts
decreases-freeze_parts l = 6 * l.left + 4

abbrev pub decreases-freeze_slot : goal.decreases-freeze_slot
decreases-freeze_slot l = 6 * l.left + 2

abbrev pub decreases-freeze_slots : goal.decreases-freeze_slots
decreases-freeze_slots l = 6 * l.left + 3

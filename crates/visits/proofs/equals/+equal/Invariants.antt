use Rattle.std.proofs.Common.{◌≡◌, ◌+◌, ◌*◌, drop}
use Rattle.visits.specs.Equal.{equal_at, pairs_equal, matches_equal, slot_equal}
use Rattle.values.specs.Seeing.{group_items, table_entries, slot_values}
use Rattle.visits.proofs.equals.+equal.Given as goal

abbrev pub invariant-groups-loop-i : goal.invariant-groups-loop-i
invariant-groups-loop-i l =
    pairs_equal (equal_at l.left l.heap) (drop l.i (group_items l.xs)) (drop l.i (group_items l.ys)) l.ticks
    ≡ pairs_equal (equal_at l.left l.heap) (group_items l.xs) (group_items l.ys) l.initial.ticks

abbrev pub invariant-tables-loop-i : goal.invariant-tables-loop-i
invariant-tables-loop-i l =
    matches_equal (equal_at l.left l.heap) (drop l.i (table_entries l.xs)) (table_entries l.ys) l.ticks
    ≡ matches_equal (equal_at l.left l.heap) (table_entries l.xs) (table_entries l.ys) l.initial.ticks

abbrev pub invariant-slots-loop-i : goal.invariant-slots-loop-i
invariant-slots-loop-i l =
    pairs_equal (slot_equal (equal_at l.left l.heap)) (drop l.i (slot_values l.xs)) (drop l.i (slot_values l.ys)) l.ticks
    ≡ pairs_equal (slot_equal (equal_at l.left l.heap)) (slot_values l.xs) (slot_values l.ys) l.initial.ticks

abbrev pub decreases-equal_within : goal.decreases-equal_within
decreases-equal_within l = 4 * l.left + 1

abbrev pub decreases-groups : goal.decreases-groups
decreases-groups l = 4 * l.left + 2

abbrev pub decreases-tables : goal.decreases-tables
decreases-tables l = 4 * l.left + 2

abbrev pub decreases-shapes : goal.decreases-shapes
decreases-shapes l = 4 * l.left + 4

abbrev pub decreases-both_slots : goal.decreases-both_slots
decreases-both_slots l = 4 * l.left + 2

abbrev pub decreases-slots : goal.decreases-slots
decreases-slots l = 4 * l.left + 3

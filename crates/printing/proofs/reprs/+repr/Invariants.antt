use Rattle.std.proofs.Common.{◌≡◌, ◌+◌, ◌*◌, drop, string_bytes}
use Rattle.ticks.specs.Ticking.{entered}
use Rattle.values.specs.Visits.{all_of}
use Rattle.values.specs.Seeing.{group_items, table_entries}
use Rattle.printing.specs.Repr.{commas, printed_entry, print_at, appended}
use Rattle.printing.proofs.ReprLemmas.{commas_from}
use Rattle.printing.proofs.reprs.+repr.Given as goal

abbrev pub invariant-put_items-loop-i : goal.invariant-put_items-loop-i
invariant-put_items-loop-i l =
    appended (string_bytes l.out) (commas_from l.i (all_of (print_at l.left l.heap) (drop l.i (group_items l.items)) l.ticks))
    ≡ appended (string_bytes l.initial.out) (commas (all_of (print_at l.left l.heap) (group_items l.items) l.initial.ticks))

abbrev pub invariant-put_entries-loop-i : goal.invariant-put_entries-loop-i
invariant-put_entries-loop-i l =
    appended (string_bytes l.out) (commas_from l.i (all_of (printed_entry (entered l.left) (print_at l.left l.heap)) (drop l.i (table_entries l.entries)) l.ticks))
    ≡ appended (string_bytes l.initial.out) (commas (all_of (printed_entry (entered l.left) (print_at l.left l.heap)) (table_entries l.entries) l.initial.ticks))

abbrev pub decreases-put_within : goal.decreases-put_within
decreases-put_within l = 6 * l.left + 1

abbrev pub decreases-put_entry : goal.decreases-put_entry
decreases-put_entry l = 6 * l.left + 2

abbrev pub decreases-put_items : goal.decreases-put_items
decreases-put_items l = 6 * l.left + 3

abbrev pub decreases-put_entries : goal.decreases-put_entries
decreases-put_entries l = 6 * l.left + 3

abbrev pub decreases-put_sequence : goal.decreases-put_sequence
decreases-put_sequence l = 6 * l.left + 4

abbrev pub decreases-put_dict : goal.decreases-put_dict
decreases-put_dict l = 6 * l.left + 4

abbrev pub decreases-put_shown : goal.decreases-put_shown
decreases-put_shown l = 6 * l.left + 5

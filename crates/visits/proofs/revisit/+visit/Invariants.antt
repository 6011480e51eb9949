use Rattle.std.proofs.Common.{◌≡◌, ◌+◌, ◌*◌, drop, take}
use Rattle.std.specs.Iterator.Adapters.{take_source, take_count}
use Rattle.std.specs.Slice.Iter.{iter_rest}
use Rattle.values.specs.Tree.{pairs}
use Rattle.ticks.specs.Ticking.{entered}
use Rattle.visits.specs.Revisit.{visit_at, all_visited, entry_visited, slot_visited, values_in}
use Rattle.visits.proofs.revisit.+visit.Given as goal

abbrev pub invariant-visit_trees-loop-tree : goal.invariant-visit_trees-loop-tree
invariant-visit_trees-loop-tree l =
    all_visited (visit_at l.left) (drop l.tree-index l.trees) l.ticks ≡ all_visited (visit_at l.left) l.trees l.initial.ticks

abbrev pub invariant-visit_pairs-loop-tree : goal.invariant-visit_pairs-loop-tree
invariant-visit_pairs-loop-tree l =
    let all = entry_visited (entered l.left) (visit_at l.left) in
    all_visited all (take (take_count l.tree-iterator) (iter_rest (take_source l.tree-iterator))) l.ticks
    ≡ all_visited all (values_in (pairs l.keys.keys l.values)) l.initial.ticks

abbrev pub invariant-visit_slots-loop-slot : goal.invariant-visit_slots-loop-slot
invariant-visit_slots-loop-slot l =
    all_visited (slot_visited (visit_at l.left)) (drop l.slot-index l.slots) l.ticks ≡ all_visited (slot_visited (visit_at l.left)) l.slots l.initial.ticks

abbrev pub decreases-visit_tree : goal.decreases-visit_tree
decreases-visit_tree l = 6 * l.left + 1

abbrev pub decreases-visit_entry : goal.decreases-visit_entry
decreases-visit_entry l = 6 * l.left + 2

abbrev pub decreases-visit_slot : goal.decreases-visit_slot
decreases-visit_slot l = 6 * l.left + 2

abbrev pub decreases-visit_slots : goal.decreases-visit_slots
decreases-visit_slots l = 6 * l.left + 3

abbrev pub decreases-visit_trees : goal.decreases-visit_trees
decreases-visit_trees l = 6 * l.left + 3

abbrev pub decreases-visit_pairs : goal.decreases-visit_pairs
decreases-visit_pairs l = 6 * l.left + 3

abbrev pub decreases-visit_node : goal.decreases-visit_node
decreases-visit_node l = 6 * l.left + 4

abbrev pub decreases-visit_held : goal.decreases-visit_held
decreases-visit_held l = 6 * l.left + 5

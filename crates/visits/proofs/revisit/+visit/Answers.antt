use Rattle.std.proofs.Common.{◌+◌, ◌-◌, drop, length, take, refl, sym, ap, ◌∙◌, subst}
use Rattle.std.proofs.lemmas.Option.{slice_get_read}
use Rattle.std.specs.Iterator.Adapters.{take_source, take_count}
use Rattle.std.specs.Slice.Iter.{iter_rest}
use Rattle.depsets.proofs.Turns.{drop_at}
use Rattle.ticks.specs.Ticking.{Count, after_tick, entered}
use Rattle.values.specs.View.{node_branch}
use Rattle.values.proofs.SeeLemmas.{tree_list-trees, slot_list-slots}
use Rattle.visits.specs.Revisit.{Goes, visit_at, visited, branch_visited, all_visited, entry_visited, slot_visited}
use Rattle.visits.proofs.ExtentLemmas.{not-at-once}
use Rattle.visits.proofs.RevisitLemmas.{visit-opened, visited-next, visited-fault, values-taken, taken-turn}
use Rattle.visits.proofs.revisit.+visit.Goals as goal

pub visit_tree-returns-in-Err : goal.visit_tree-returns-in-Err
visit_tree-returns-in-Err t c =
    let n = c.args.left in
    let tree = c.args.tree.now in
    let now = c.visit_at_once.new.ticks in
    let inside = λ (d : Count). visited (entered (n - 1)) (visit_at (n - 1)) tree d in
    let same = not-at-once c.visit_at_once.result n c.extent.result c.args.ticks.now now c.if-visit_at_once.false c.visit_at_once.ensures in
    ap (λ d. visit_at n tree d) (sym same) ∙ visit-opened n tree now ∙ ap (λ r. after_tick r inside) c.in-Err.ensures

pub visit_tree-returns : goal.visit_tree-returns
visit_tree-returns t c =
    let n = c.args.left in
    let tree = c.args.tree.now in
    let now = c.visit_at_once.new.ticks in
    let inside = λ (d : Count). visited (entered (n - 1)) (visit_at (n - 1)) tree d in
    let same = not-at-once c.visit_at_once.result n c.extent.result c.args.ticks.now now c.if-visit_at_once.false c.visit_at_once.ensures in
    subst (λ d. Goes (visit_at n tree d) c.visit_held.result c.visit_held.new.ticks) same
    (subst (λ r. Goes r c.visit_held.result c.visit_held.new.ticks)
    (sym (visit-opened n tree now ∙ ap (λ r. after_tick r inside) c.in_default.ensures.0
    ∙ ap (λ u. visited (entered (n - 1)) (visit_at (n - 1)) u c.enter.new.self) (sym c.held.ensures))) c.visit_held.ensures)

pub visit_trees-returns-in-Err : goal.visit_trees-returns-in-Err
visit_trees-returns-in-Err t c =
    let ts = c.args.trees.now in
    sym c.loop-tree.invariant
    ∙ visited-fault (visit_at c.args.left) c.tree-item.result (drop c.loop-tree.tree-index ts) (drop (c.loop-tree.tree-index + 1) ts) c.loop-tree.ticks c.in-Err.kind
    (drop_at ts c.loop-tree.tree-index c.tree-item.result (slice_get_read ts (length ts) c.loop-tree.tree-index c.tree-item.result refl c.loop-tree-test.true c.tree-item.is)) c.in-Err.ensures

pub visit_trees-loop-tree-preserved : goal.visit_trees-loop-tree-preserved
visit_trees-loop-tree-preserved t c =
    let ts = c.args.trees.now in
    visited-next (visit_at c.args.left) c.tree-item.result (drop c.loop-tree.tree-index ts) (drop (c.loop-tree.tree-index + 1) ts) c.loop-tree.ticks c.visit_tree.new.ticks
    (drop_at ts c.loop-tree.tree-index c.tree-item.result (slice_get_read ts (length ts) c.loop-tree.tree-index c.tree-item.result refl c.loop-tree-test.true c.tree-item.is)) c.in_default.ensures
    ∙ c.loop-tree.invariant

pub visit_pairs-loop-tree-init : goal.visit_pairs-loop-tree-init
visit_pairs-loop-tree-init t c =
    let n = c.args.left in
    ap (λ l. all_visited (entry_visited (entered n) (visit_at n)) l c.args.ticks.now)
    (ap (λ s. take (take_count s) (iter_rest (take_source s))) c.into_iter-tree-iterator.ensures.into_iter_gives
    ∙ (λ j. take ((c.take-tree-items.ensures.count ∙ c.len.ensures.len) j) ((ap iter_rest c.take-tree-items.ensures.source ∙ c.iter.ensures.rest) j))
    ∙ values-taken c.args.keys.now.keys c.args.values.now)

pub visit_pairs-returns-in-Err : goal.visit_pairs-returns-in-Err
visit_pairs-returns-in-Err t c =
    let now = c.loop-tree.tree-iterator in
    let next = c.next.new.self in
    let step = c.in-Some.ensures.steps in
    sym c.loop-tree.invariant
    ∙ visited-fault (entry_visited (entered c.args.left) (visit_at c.args.left)) c.in-Some.tree.now
    (take (take_count now) (iter_rest (take_source now))) (take (take_count next) (iter_rest (take_source next))) c.loop-tree.ticks c.in-Err.kind
    (taken-turn c.in-Some.tree.now (iter_rest (take_source now)) (iter_rest (take_source next)) (take_count now) (take_count next) step.0 step.1) c.in-Err.ensures

pub visit_node-returns-in-List : goal.visit_node-returns-in-List
visit_node-returns-in-List t c =
    let n = c.args.left in
    subst (λ r. Goes r c.visit_trees.result c.visit_trees.new.ticks)
    (ap (λ l. all_visited (visit_at n) l c.args.ticks.now) (c.as_slice.ensures.value ∙ sym (tree_list-trees c.in-List.items.items))
    ∙ ap (λ m. branch_visited (entered n) (visit_at n) (node_branch m) c.args.ticks.now) (sym c.in-List.is)) c.visit_trees.ensures

pub visit_node-returns-in-Tuple : goal.visit_node-returns-in-Tuple
visit_node-returns-in-Tuple t c =
    let n = c.args.left in
    subst (λ r. Goes r c.visit_trees-in-Tuple.result c.visit_trees-in-Tuple.new.ticks)
    (ap (λ l. all_visited (visit_at n) l c.args.ticks.now) (c.as_slice-in-Tuple.ensures.value ∙ sym (tree_list-trees c.in-Tuple.items.items))
    ∙ ap (λ m. branch_visited (entered n) (visit_at n) (node_branch m) c.args.ticks.now) (sym c.in-Tuple.is)) c.visit_trees-in-Tuple.ensures

pub visit_node-returns-in-Instance : goal.visit_node-returns-in-Instance
visit_node-returns-in-Instance t c =
    let n = c.args.left in
    subst (λ r. Goes r c.visit_slots.result c.visit_slots.new.ticks)
    (ap (λ l. all_visited (slot_visited (visit_at n)) l c.args.ticks.now) (c.as_slice-in-Instance.ensures.value ∙ sym (slot_list-slots c.in-Instance.fields.items))
    ∙ ap (λ m. branch_visited (entered n) (visit_at n) (node_branch m) c.args.ticks.now) (sym c.in-Instance.is)) c.visit_slots.ensures

pub visit_slots-returns-in-Err : goal.visit_slots-returns-in-Err
visit_slots-returns-in-Err t c =
    let os = c.args.slots.now in
    sym c.loop-slot.invariant
    ∙ visited-fault (slot_visited (visit_at c.args.left)) c.slot-item.result (drop c.loop-slot.slot-index os) (drop (c.loop-slot.slot-index + 1) os) c.loop-slot.ticks c.in-Err.kind
    (drop_at os c.loop-slot.slot-index c.slot-item.result (slice_get_read os (length os) c.loop-slot.slot-index c.slot-item.result refl c.loop-slot-test.true c.slot-item.is)) c.in-Err.ensures

pub visit_slots-loop-slot-preserved : goal.visit_slots-loop-slot-preserved
visit_slots-loop-slot-preserved t c =
    let os = c.args.slots.now in
    visited-next (slot_visited (visit_at c.args.left)) c.slot-item.result (drop c.loop-slot.slot-index os) (drop (c.loop-slot.slot-index + 1) os) c.loop-slot.ticks c.visit_slot.new.ticks
    (drop_at os c.loop-slot.slot-index c.slot-item.result (slice_get_read os (length os) c.loop-slot.slot-index c.slot-item.result refl c.loop-slot-test.true c.slot-item.is)) c.in_default.ensures
    ∙ c.loop-slot.invariant

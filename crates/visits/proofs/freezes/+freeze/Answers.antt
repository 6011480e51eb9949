use Rattle.std.proofs.Common.{◌≡◌, ◌+◌, ◌-◌, drop, length, Ok, Some, option_copied, refl, sym, ap, ◌∙◌, subst}
use Rattle.std.proofs.lemmas.Option.{slice_get_read}
use Rattle.ticks.specs.Ticking.{Count, FaultOr, Says, after_tick, entered}
use Rattle.leaves.specs.Lent.{leaf_at}
use Rattle.values.specs.Visits.{all_of, keys_of}
use Rattle.values.specs.Tree.{branch}
use Rattle.values.specs.Shape.{shape, cell_shape}
use Rattle.values.specs.Seeing.{item_value}
use Rattle.visits.specs.Freeze.{freeze_at, built, frozen_entry, frozen_slot}
use Rattle.values.specs.declared.value.Value.TheVariants as value
use Rattle.values.proofs.VisitLemmas.{with_done, all_of-next, all_of-fault, all_of-length}
use Rattle.values.proofs.KeyListLemmas.{length-keys_of}
use Rattle.visits.proofs.RevisitLemmas.{opened, frozen-again}
use Rattle.visits.proofs.freezes.+freeze.Goals as goal

pub freeze_within-returns-in-Leaf : goal.freeze_within-returns-in-Leaf
freeze_within-returns-in-Leaf t c =
    subst (λ r. Says r c.freeze_leaf.result c.freeze_leaf.new.ticks)
    (sym (ap (λ i. freeze_at c.args.left c.args.heap.now (item_value i) c.args.ticks.now) c.in-Leaf.is ∙ opened c.args.left c.args.heap.now (value.Leaf (leaf_at c.in-Leaf.leaf)) c.args.ticks.now))
    c.freeze_leaf.ensures

pub freeze_within-returns-in-Branch : goal.freeze_within-returns-in-Branch
freeze_within-returns-in-Branch t c =
    subst (λ r. Says r c.freeze_branch.result c.freeze_branch.new.ticks)
    (sym (ap (λ i. freeze_at c.args.left c.args.heap.now (item_value i) c.args.ticks.now) c.in-Branch.is ∙ frozen-again c.args.left c.args.heap.now (branch c.in-Branch.limb.now) c.args.ticks.now))
    c.freeze_branch.ensures

pub freeze_within-returns-in-Key : goal.freeze_within-returns-in-Key
freeze_within-returns-in-Key t c =
    subst (λ r. Says r c.freeze_key.result c.freeze_key.new.ticks)
    (sym (ap (λ i. freeze_at c.args.left c.args.heap.now (item_value i) c.args.ticks.now) c.in-Key.is ∙ opened c.args.left c.args.heap.now (value.Key c.in-Key.key.now) c.args.ticks.now))
    c.freeze_key.ensures

pub freeze_cell-returns-in-Err : goal.freeze_cell-returns-in-Err
freeze_cell-returns-in-Err t c =
    let n = c.args.left in
    let h = c.args.heap.now in
    let v = value.Cell c.args.number in
    let inside = λ (d : Count). built (entered (n - 1)) (freeze_at (n - 1) h) (shape h v) d in
    opened n h v c.args.ticks.now ∙ ap (λ r. after_tick r inside) c.in-Err.ensures

pub freeze_cell-returns-in-Some : goal.freeze_cell-returns-in-Some
freeze_cell-returns-in-Some t c =
    let n = c.args.left in
    let h = c.args.heap.now in
    let v = value.Cell c.args.number in
    let inside = λ (d : Count). built (entered (n - 1)) (freeze_at (n - 1) h) (shape h v) d in
    let found = sym c.cell.ensures ∙ ap option_copied c.in-Some.is in
    subst (λ r. Says r c.freeze_parts.result c.freeze_parts.new.ticks)
    (sym (opened n h v c.args.ticks.now ∙ ap (λ r. after_tick r inside) c.in_default.ensures.0
    ∙ ap (λ o. built (entered (n - 1)) (freeze_at (n - 1) h) (cell_shape o) c.enter.new.self) found)) c.freeze_parts.ensures

pub freeze_cell-returns-in-None : goal.freeze_cell-returns-in-None
freeze_cell-returns-in-None t c =
    let n = c.args.left in
    let h = c.args.heap.now in
    let v = value.Cell c.args.number in
    let inside = λ (d : Count). built (entered (n - 1)) (freeze_at (n - 1) h) (shape h v) d in
    let found = sym c.cell.ensures ∙ ap option_copied c.in-None.is in
    opened n h v c.args.ticks.now ∙ ap (λ r. after_tick r inside) c.in_default.ensures.0
    ∙ ap (λ o. built (entered (n - 1)) (freeze_at (n - 1) h) (cell_shape o) c.enter.new.self) found

pub freeze_all-returns-in-Err : goal.freeze_all-returns-in-Err
freeze_all-returns-in-Err t c =
    subst (λ r. FaultOr r c.in-Err.broken) c.loop-value.invariant
    (all_of-fault (freeze_at c.args.left c.args.heap.now) c.args.values.now c.loop-value.value-index c.value-item.result (slice_get_read c.args.values.now (length c.args.values.now) c.loop-value.value-index c.value-item.result refl c.loop-value-test.true c.value-item.is)
    c.loop-value.kept.items c.loop-value.ticks c.in-Err.broken
    (subst (λ v. FaultOr (freeze_at c.args.left c.args.heap.now v c.loop-value.ticks) c.in-Err.broken) c.item.ensures c.in-Err.ensures))

pub freeze_all-loop-value-preserved : goal.freeze_all-loop-value-preserved
freeze_all-loop-value-preserved t c =
    ap (λ l. with_done l (all_of (freeze_at c.args.left c.args.heap.now) (drop (c.loop-value.value-index + 1) c.args.values.now) c.freeze_within.new.ticks)) c.in_ok-push_last-in-Ok.ensures.ok
    ∙ all_of-next (freeze_at c.args.left c.args.heap.now) c.args.values.now c.loop-value.value-index c.value-item.result (slice_get_read c.args.values.now (length c.args.values.now) c.loop-value.value-index c.value-item.result refl c.loop-value-test.true c.value-item.is)
    c.loop-value.kept.items c.loop-value.ticks c.in-Ok.tree c.freeze_within.new.ticks
    (subst (λ v. freeze_at c.args.left c.args.heap.now v c.loop-value.ticks ≡ Ok (c.in-Ok.tree, c.freeze_within.new.ticks)) c.item.ensures c.in-Ok.ensures)
    ∙ c.loop-value.invariant

pub freeze_entries-returns-in-Err : goal.freeze_entries-returns-in-Err
freeze_entries-returns-in-Err t c =
    subst (λ r. FaultOr r c.in-Err.broken) c.loop-i.invariant
    (all_of-fault (frozen_entry (entered c.args.left) (freeze_at c.args.left c.args.heap.now)) c.args.entries.now c.loop-i.i
    (c.in-Some.field-0-0.now, c.in-Some.value.now) c.in-Some.ensures c.loop-i.kept.items c.loop-i.ticks c.in-Err.broken c.in-Err.ensures)

pub freeze_entries-loop-i-preserved : goal.freeze_entries-loop-i-preserved
freeze_entries-loop-i-preserved t c =
    let entry = frozen_entry (entered c.args.left) (freeze_at c.args.left c.args.heap.now) in
    ap (λ l. with_done l (all_of entry (drop (c.loop-i.i + 1) c.args.entries.now) c.freeze_entry.new.ticks)) c.in_ok-push_last-in-Ok.ensures.ok
    ∙ all_of-next entry c.args.entries.now c.loop-i.i (c.in-Some.field-0-0.now, c.in-Some.value.now) c.in-Some.ensures
    c.loop-i.kept.items c.loop-i.ticks c.in-Ok.tree c.freeze_entry.new.ticks c.in-Ok.ensures
    ∙ c.loop-i.invariant

-- as many values as keys
pub freeze_parts-dict_of-requires : goal.freeze_parts-dict_of-requires
freeze_parts-dict_of-requires t c =
    ap length c.in_ok-keys-in-Dict.ensures ∙ length-keys_of c.get-entries.result.now
    ∙ sym (all_of-length (frozen_entry (entered c.args.left) (freeze_at c.args.left c.args.heap.now)) c.get-entries.result.now c.args.ticks.now
    c.in-Ok-freeze_entries.trees.items c.freeze_entries.new.ticks c.in-Ok-freeze_entries.ensures)

pub freeze_slots-returns-in-Err : goal.freeze_slots-returns-in-Err
freeze_slots-returns-in-Err t c =
    subst (λ r. FaultOr r c.in-Err.broken) c.loop-field.invariant
    (all_of-fault (frozen_slot (freeze_at c.args.left c.args.heap.now)) c.args.fields.now c.loop-field.field-index c.field-item.result (slice_get_read c.args.fields.now (length c.args.fields.now) c.loop-field.field-index c.field-item.result refl c.loop-field-test.true c.field-item.is)
    c.loop-field.kept.items c.loop-field.ticks c.in-Err.broken c.in-Err.ensures)

pub freeze_slots-loop-field-preserved : goal.freeze_slots-loop-field-preserved
freeze_slots-loop-field-preserved t c =
    ap (λ l. with_done l (all_of (frozen_slot (freeze_at c.args.left c.args.heap.now)) (drop (c.loop-field.field-index + 1) c.args.fields.now) c.freeze_slot.new.ticks)) c.in_ok-push_last-in-Ok.ensures.ok
    ∙ all_of-next (frozen_slot (freeze_at c.args.left c.args.heap.now)) c.args.fields.now c.loop-field.field-index c.field-item.result (slice_get_read c.args.fields.now (length c.args.fields.now) c.loop-field.field-index c.field-item.result refl c.loop-field-test.true c.field-item.is)
    c.loop-field.kept.items c.loop-field.ticks c.in-Ok.tree c.freeze_slot.new.ticks c.in-Ok.ensures
    ∙ c.loop-field.invariant

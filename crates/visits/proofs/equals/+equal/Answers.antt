use Rattle.std.proofs.Common.{◌≡◌, ◌-◌, arith, sym, ap, ◌∙◌, refl, subst, Ok, Some, slice_get}
use Rattle.ticks.specs.Ticking.{SaysKind}
use Rattle.visits.specs.Equal.{equal_at, compared, slot_equal}
use Rattle.values.specs.Seeing.{group_items, table_entries, slot_values, item_value, option_value}
use Rattle.visits.proofs.EqualLemmas.{stopped, went, pairs-then, pairs-end, items-pairs, matches-then, entries-matches}
use Rattle.visits.proofs.equals.+equal.Goals as goal

pub equal_within-returns-in-Err : goal.equal_within-returns-in-Err
equal_within-returns-in-Err t c =
    stopped c.args.heap.now (item_value c.args.a) (item_value c.args.b) c.args.ticks.now c.args.left _ c.in-Err.ensures

pub equal_within-returns : goal.equal_within-returns
equal_within-returns t c =
    let eq = equal_at (c.args.left - 1) c.args.heap.now in
    subst (λ r. SaysKind r c.shapes.result c.shapes.new.ticks)
    (sym (went c.args.heap.now (item_value c.args.a) (item_value c.args.b) c.args.ticks.now c.args.left c.enter.new.self c.in_default.ensures.0 c.in_default.ensures.1
    ∙ (λ j. compared eq (sym c.see_item-x.ensures j) (sym c.see_item-y.ensures j) c.enter.new.self))) c.shapes.ensures

pub groups-returns-in-Err : goal.groups-returns-in-Err
groups-returns-in-Err t c =
    let eq = equal_at c.args.left c.args.heap.now in
    let xs = group_items c.args.xs.now in
    let ys = group_items c.args.ys.now in
    let same = items-pairs eq xs ys c.args.ticks.now (sym c.len.ensures ∙ c.if-len.false ∙ c.len-2.ensures) in
    same ∙ sym c.loop-i.invariant
    ∙ pairs-then eq xs ys c.loop-i.i (item_value c.item-x.result) (item_value c.item-y.result) c.item-x.ensures c.item-y.ensures c.loop-i.ticks c.in-Err.ensures

pub groups-returns-in-Ok-false : goal.groups-returns-in-Ok-false
groups-returns-in-Ok-false t c =
    let eq = equal_at c.args.left c.args.heap.now in
    let xs = group_items c.args.xs.now in
    let ys = group_items c.args.ys.now in
    let same = items-pairs eq xs ys c.args.ticks.now (sym c.len.ensures ∙ c.if-len.false ∙ c.len-2.ensures) in
    same ∙ sym c.loop-i.invariant
    ∙ pairs-then eq xs ys c.loop-i.i (item_value c.item-x.result) (item_value c.item-y.result) c.item-x.ensures c.item-y.ensures c.loop-i.ticks
    (c.in-Ok-false.ensures ∙ ap (λ b. Ok (b, c.equal_within.new.ticks)) c.in-Ok-false.field-0-test)

pub groups-loop-i-preserved : goal.groups-loop-i-preserved
groups-loop-i-preserved t c =
    let eq = equal_at c.args.left c.args.heap.now in
    let xs = group_items c.args.xs.now in
    let ys = group_items c.args.ys.now in
    sym (pairs-then eq xs ys c.loop-i.i (item_value c.item-x.result) (item_value c.item-y.result) c.item-x.ensures c.item-y.ensures c.loop-i.ticks
    (c.in-Ok-true.ensures ∙ ap (λ b. Ok (b, c.equal_within.new.ticks)) c.in-Ok-true.field-0-test))
    ∙ c.loop-i.invariant

pub tables-returns-in_default-get : goal.tables-returns-in_default-get
tables-returns-in_default-get t c =
    let eq = equal_at c.args.left c.args.heap.now in
    let es = table_entries c.args.xs.now in
    let fs = table_entries c.args.ys.now in
    let at : slice_get es c.loop-i.i ≡ Some (c.in-Some.key.now, item_value c.in-Some.x) = c.in-Some.ensures in
    let none = sym c.get.ensures ∙ ap option_value c.in_default-get.is in
    entries-matches eq es fs c.args.ticks.now (sym c.len.ensures ∙ c.if-len.false ∙ c.len-2.ensures)
    ∙ sym c.loop-i.invariant
    ∙ matches-then eq es fs c.loop-i.i c.in-Some.key.now (item_value c.in-Some.x) at c.loop-i.ticks none refl

pub tables-returns-in-Err : goal.tables-returns-in-Err
tables-returns-in-Err t c =
    let eq = equal_at c.args.left c.args.heap.now in
    let es = table_entries c.args.xs.now in
    let fs = table_entries c.args.ys.now in
    let at : slice_get es c.loop-i.i ≡ Some (c.in-Some.key.now, item_value c.in-Some.x) = c.in-Some.ensures in
    let found = sym c.get.ensures ∙ ap option_value c.in-Some-get.is in
    entries-matches eq es fs c.args.ticks.now (sym c.len.ensures ∙ c.if-len.false ∙ c.len-2.ensures)
    ∙ sym c.loop-i.invariant
    ∙ matches-then eq es fs c.loop-i.i c.in-Some.key.now (item_value c.in-Some.x) at c.loop-i.ticks found c.in-Err.ensures

pub tables-returns-in-Ok-false : goal.tables-returns-in-Ok-false
tables-returns-in-Ok-false t c =
    let eq = equal_at c.args.left c.args.heap.now in
    let es = table_entries c.args.xs.now in
    let fs = table_entries c.args.ys.now in
    let at : slice_get es c.loop-i.i ≡ Some (c.in-Some.key.now, item_value c.in-Some.x) = c.in-Some.ensures in
    let found = sym c.get.ensures ∙ ap option_value c.in-Some-get.is in
    entries-matches eq es fs c.args.ticks.now (sym c.len.ensures ∙ c.if-len.false ∙ c.len-2.ensures)
    ∙ sym c.loop-i.invariant
    ∙ matches-then eq es fs c.loop-i.i c.in-Some.key.now (item_value c.in-Some.x) at c.loop-i.ticks found
    (c.in-Ok-false.ensures ∙ ap (λ b. Ok (b, c.equal_within.new.ticks)) c.in-Ok-false.field-0-test)

pub tables-loop-i-preserved : goal.tables-loop-i-preserved
tables-loop-i-preserved t c =
    let eq = equal_at c.args.left c.args.heap.now in
    let es = table_entries c.args.xs.now in
    let fs = table_entries c.args.ys.now in
    let at : slice_get es c.loop-i.i ≡ Some (c.in-Some.key.now, item_value c.in-Some.x) = c.in-Some.ensures in
    let found = sym c.get.ensures ∙ ap option_value c.in-Some-get.is in
    sym (matches-then eq es fs c.loop-i.i c.in-Some.key.now (item_value c.in-Some.x) at c.loop-i.ticks found
    (c.in-Ok-true.ensures ∙ ap (λ b. Ok (b, c.equal_within.new.ticks)) c.in-Ok-true.field-0-test))
    ∙ c.loop-i.invariant

pub slots-returns-in-Err : goal.slots-returns-in-Err
slots-returns-in-Err t c =
    let eq = slot_equal (equal_at c.args.left c.args.heap.now) in
    sym c.loop-i.invariant
    ∙ pairs-then eq (slot_values c.args.xs.now) (slot_values c.args.ys.now) c.loop-i.i (option_value c.slot-x.result) (option_value c.slot-y.result)
    c.slot-x.ensures c.slot-y.ensures c.loop-i.ticks c.in-Err.ensures

pub slots-returns-in-Ok-false : goal.slots-returns-in-Ok-false
slots-returns-in-Ok-false t c =
    let eq = slot_equal (equal_at c.args.left c.args.heap.now) in
    sym c.loop-i.invariant
    ∙ pairs-then eq (slot_values c.args.xs.now) (slot_values c.args.ys.now) c.loop-i.i (option_value c.slot-x.result) (option_value c.slot-y.result)
    c.slot-x.ensures c.slot-y.ensures c.loop-i.ticks
    (c.in-Ok-false.ensures ∙ ap (λ b. Ok (b, c.both_slots.new.ticks)) c.in-Ok-false.field-0-test)

pub slots-loop-i-preserved : goal.slots-loop-i-preserved
slots-loop-i-preserved t c =
    let eq = slot_equal (equal_at c.args.left c.args.heap.now) in
    sym (pairs-then eq (slot_values c.args.xs.now) (slot_values c.args.ys.now) c.loop-i.i (option_value c.slot-x.result) (option_value c.slot-y.result)
    c.slot-x.ensures c.slot-y.ensures c.loop-i.ticks
    (c.in-Ok-true.ensures ∙ ap (λ b. Ok (b, c.both_slots.new.ticks)) c.in-Ok-true.field-0-test))
    ∙ c.loop-i.invariant

pub slots-returns : goal.slots-returns
slots-returns t c =
    sym c.loop-i.invariant
    ∙ pairs-end (slot_equal (equal_at c.args.left c.args.heap.now)) (slot_values c.args.xs.now) (slot_values c.args.ys.now) c.loop-i.i c.loop-i.ticks
    (omega (arith, c.loop-i-test.false, c.min-i-end.ensures, c.len.ensures, c.len-2.ensures))

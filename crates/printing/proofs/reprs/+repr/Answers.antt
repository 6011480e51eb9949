use Rattle.std.proofs.Common.{◌-◌, string_bytes, sym, ap, ◌∙◌, subst}
use Rattle.ticks.specs.Ticking.{Count, FaultOr, after_tick, entered}
use Rattle.values.specs.Visits.{all_of}
use Rattle.values.specs.Shape.{shape}
use Rattle.values.specs.Seeing.{item_value, group_items, table_entries}
use Rattle.printing.specs.Repr.{commas, printed, printed_entry, print_at, Prints}
use Rattle.printing.proofs.ReprLemmas.{opened, fault-inside, parts-next, parts-fault}
use Rattle.printing.proofs.reprs.+repr.Goals as goal

pub put_within-returns-in-Err : goal.put_within-returns-in-Err
put_within-returns-in-Err t c =
    let n = c.args.left in
    let h = c.args.heap.now in
    let v = item_value c.args.item in
    let inside = λ (d : Count). printed (entered (n - 1)) (print_at (n - 1) h) (shape h v) d in
    opened n h v c.args.ticks.now ∙ ap (λ r. after_tick r inside) c.in-Err.ensures

pub put_within-returns : goal.put_within-returns
put_within-returns t c =
    let n = c.args.left in
    let h = c.args.heap.now in
    let v = item_value c.args.item in
    let inside = λ (d : Count). printed (entered (n - 1)) (print_at (n - 1) h) (shape h v) d in
    subst (λ r. Prints r c.put_shown.result (string_bytes c.args.out.now) (string_bytes c.put_shown.new.out) c.put_shown.new.ticks)
    (sym (opened n h v c.args.ticks.now ∙ ap (λ r. after_tick r inside) c.in_default.ensures.0
    ∙ ap (λ w. printed (entered (n - 1)) (print_at (n - 1) h) w c.enter.new.self) (sym c.see_item-shown.ensures))) c.put_shown.ensures

pub put_items-returns-in-Err : goal.put_items-returns-in-Err
put_items-returns-in-Err t c =
    let f = print_at c.args.left c.args.heap.now in
    let xs = group_items c.args.items.now in
    fault-inside (string_bytes c.args.out.now) (commas (all_of f xs c.args.ticks.now)) c.in-Err.broken
    (subst (λ r. FaultOr r c.in-Err.broken) c.loop-i.invariant
    (parts-fault f xs c.loop-i.i (string_bytes c.loop-i.out) c.loop-i.ticks (item_value c.item.result) c.item.ensures c.in-Err.broken c.in-Err.ensures))

pub put_items-loop-i-preserved : goal.put_items-loop-i-preserved
put_items-loop-i-preserved t c =
    parts-next (print_at c.args.left c.args.heap.now) (group_items c.args.items.now) c.loop-i.i (string_bytes c.loop-i.out) c.loop-i.ticks
    (item_value c.item.result) c.item.ensures (string_bytes c.put_comma.new.out) (string_bytes c.put_within.new.out) c.put_within.new.ticks
    c.in_ok-put_comma.ensures c.in_default.ensures
    ∙ c.loop-i.invariant

pub put_entries-returns-in-Err : goal.put_entries-returns-in-Err
put_entries-returns-in-Err t c =
    let f = printed_entry (entered c.args.left) (print_at c.args.left c.args.heap.now) in
    let es = table_entries c.args.entries.now in
    fault-inside (string_bytes c.args.out.now) (commas (all_of f es c.args.ticks.now)) c.in-Err.broken
    (subst (λ r. FaultOr r c.in-Err.broken) c.loop-i.invariant
    (parts-fault f es c.loop-i.i (string_bytes c.loop-i.out) c.loop-i.ticks (c.in-Some.key.now, item_value c.in-Some.value) c.in-Some.ensures c.in-Err.broken c.in-Err.ensures))

pub put_entries-loop-i-preserved : goal.put_entries-loop-i-preserved
put_entries-loop-i-preserved t c =
    parts-next (printed_entry (entered c.args.left) (print_at c.args.left c.args.heap.now)) (table_entries c.args.entries.now) c.loop-i.i (string_bytes c.loop-i.out) c.loop-i.ticks
    (c.in-Some.key.now, item_value c.in-Some.value) c.in-Some.ensures (string_bytes c.put_comma.new.out) (string_bytes c.put_entry.new.out) c.put_entry.new.ticks
    c.in_ok-put_comma.ensures c.in_default-put_entry.ensures
    ∙ c.loop-i.invariant

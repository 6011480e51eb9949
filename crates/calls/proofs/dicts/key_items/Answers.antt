use Rattle.std.proofs.Common.{◌+◌, ◌++◌, ◌∷◌, [], drop, sym, ap, ◌∙◌, append_assoc}
use Rattle.depsets.proofs.Turns.{drop_at}
use Rattle.values.specs.Visits.{keys_as_values}
use Rattle.values.specs.Seeing.{table_entries}
use Rattle.calls.proofs.dicts.key_items.Goals as goal

pub loop-place-preserved : goal.loop-place-preserved
loop-place-preserved c =
    let xs = keys_as_values (table_entries c.args.entries) in let i = c.loop-place.place in let x = c.in_ok-key_at.field-0 in
    ap (λ l. l ++ drop (i + 1) xs) c.in_ok-push.ensures.ok
    ∙ (append_assoc c.loop-place.items (x ∷ []) (drop (i + 1) xs) ∙ ap (λ l. c.loop-place.items ++ l) (sym (drop_at xs i x c.in_ok-key_at.ensures)))
    ∙ c.loop-place.invariant

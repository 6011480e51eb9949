use Rattle.std.proofs.Common.{◌+◌, ◌++◌, ◌∷◌, [], drop, sym, ap, ◌∙◌, append_assoc}
use Rattle.depsets.proofs.Turns.{drop_at}
use Rattle.values.specs.Seeing.{group_items}
use Rattle.state.proofs.changes.copy_into.Goals as goal

pub loop-place-preserved : goal.loop-place-preserved
loop-place-preserved c =
    let xs = group_items c.args.group in let i = c.loop-place.place in let x = c.in_ok-operand.field-0 in
    ap (λ l. l ++ drop (i + 1) xs) c.in_ok-push.ensures.ok
    ∙ (append_assoc c.loop-place.items (x ∷ []) (drop (i + 1) xs) ∙ ap (λ l. c.loop-place.items ++ l) (sym (drop_at xs i x c.in_ok-operand.ensures)))
    ∙ c.loop-place.invariant

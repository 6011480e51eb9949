use Rattle.std.proofs.Common.{◌≡◌, ◌+◌, ◌++◌, ◌∷◌, [], Some, length, drop, slice_get, refl, ap, ◌∙◌}
use Rattle.std.proofs.lemmas.Option.{slice_get_read}
use Rattle.making.proofs.Turns.{mapped}
use Rattle.operations.specs.Arguments.{given_for}
use Rattle.operations.specs.Instances.{given_fields}
use Rattle.making.proofs.instances.given_fields.Goals as goal

pub loop-field-preserved : goal.loop-field-preserved
loop-field-preserved c =
    let fs = c.args.fields.now in let names = c.args.names.now in let values = c.args.values.now in
    let i = c.loop-field.field-index in let x = c.field-item.result in
    let at : slice_get fs i ≡ Some x = slice_get_read fs (length fs) i x refl c.loop-field-test.true c.field-item.is in
    ap (λ l. l ++ given_fields (drop (i + 1) fs) names values)
    (c.in_ok-put_field.ensures ∙ ap (λ ns. c.loop-field.slots ++ given_for x ns values ∷ []) c.in_ok-places.ensures)
    ∙ mapped (λ y. given_for y names values) c.loop-field.slots fs i x at
    ∙ c.loop-field.invariant

use Rattle.std.proofs.Common.{◌∙◌, sym, subst, None, Some}
use Rattle.operations.specs.States.{Gives}
use Rattle.contexts.proofs.Named.{files_named}
use Rattle.contexts.proofs.fields.files_field.Goals as goal

pub returns-in-Some : goal.returns-in-Some
returns-in-Some g c =
    let x = c.args.context.now in
    subst (λ r. Gives r c.files_at.result)
    (files_named x.target.now x.dependencies c.args.name.now (Some c.in-Some.place) (sym c.in-Some.is ∙ c.attribute_place.ensures))
    c.files_at.ensures

pub returns-in-None : goal.returns-in-None
returns-in-None g c =
    let x = c.args.context.now in
    sym (files_named x.target.now x.dependencies c.args.name.now None (sym c.in-None.is ∙ c.attribute_place.ensures))

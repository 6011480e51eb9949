use Rattle.std.proofs.Common.{◌∙◌, ap, bytes_eq, Some}
use Rattle.std.specs.Option.{option_eq}
use Rattle.field_names.specs.Names.{text_of}
use Rattle.field_names.proofs.Known.{is_known, same}
use Rattle.field_names.proofs.field_name.FieldName.is.Goals as goal

-- src/field_name.rt:45:5
pub returns : goal.returns
returns c =
    c.eq.ensures ∙ ap (λ o. option_eq same o (Some c.args.name)) c.self.invariant
    ∙ is_known c.args.name c.self.inside.text ∙ ap (λ x. bytes_eq x (text_of c.args.name)) c.self.view_is

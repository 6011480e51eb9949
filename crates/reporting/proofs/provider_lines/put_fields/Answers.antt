use Rattle.std.proofs.Common.{◌++◌, ◌∙◌, ap, append-nil, string_bytes, sym}
use Rattle.std.proofs.lemmas.Slice.Zip.{Zip-more, either_empty_from_Zip}
use Rattle.depsets.specs.Listed.{walked}
use Rattle.reporting.proofs.Fields.{field_next, fields_end}
use Rattle.reporting.proofs.provider_lines.put_fields.Goals as goal

pub loop-name-preserved : goal.loop-name-preserved
loop-name-preserved c =
    let out = string_bytes c.loop-name.out in
    let turn = Zip-more c.loop-name.name-iterator c.next.new.self _ _ c.in-Some.is c.next.ensures.steps in
    field_next walked _ _ _ _ _ _ out (string_bytes c.put_field.new.out) turn.0 turn.1 c.in_ok-put_field.ensures ∙ c.loop-name.invariant

pub returns : goal.returns
returns c =
    let out = string_bytes c.loop-name.out in
    let spent = either_empty_from_Zip c.loop-name.name-iterator c.next.new.self _ c.in-None.is c.next.ensures.steps in
    let none = fields_end walked _ _ spent in
    sym (append-nil out) ∙ ap (λ rest. out ++ rest) (sym none) ∙ c.loop-name.invariant

use Rattle.std.proofs.Common.{Some, None, sym, ap, ◌∙◌, arith}
use Rattle.std.proofs.lemmas.Str.Pattern.{split_parts}
use Rattle.operations.specs.Fields.{after_colon}
use Rattle.finding.proofs.Names.{after_first, after_nothing}
use Rattle.finding.proofs.parts.after_colon.Goals as goal

pub returns-in-Some : goal.returns-in-Some
returns-in-Some c =
    let s = split_parts 58 c.args.text.now (Some (c.in-Some.field-0-0, c.in-Some.after)) c.in-Some.ensures.cases (omega arith) in
    sym (ap after_colon s.0 ∙ after_first c.in-Some.field-0-0.now c.in-Some.after.now s.1)

pub returns-in-None : goal.returns-in-None
returns-in-None c = sym (after_nothing c.args.text.now (split_parts 58 c.args.text.now None c.in-None.ensures.cases (omega arith)))

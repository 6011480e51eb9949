use Rattle.std.proofs.Common.{Some, None, sym, ap, ◌∙◌, arith}
use Rattle.std.proofs.lemmas.Str.Pattern.{split_parts}
use Rattle.operations.specs.Fields.{before_colon}
use Rattle.finding.proofs.Names.{before_first, before_whole}
use Rattle.finding.proofs.parts.before_colon.Goals as goal

pub returns-in-Some : goal.returns-in-Some
returns-in-Some c =
    let s = split_parts 58 c.args.text.now (Some (c.in-Some.before, c.in-Some.field-0-1)) c.in-Some.ensures.cases (omega arith) in
    sym (ap before_colon s.0 ∙ before_first c.in-Some.before.now c.in-Some.field-0-1.now s.1)

pub returns-in-None : goal.returns-in-None
returns-in-None c = sym (before_whole c.args.text.now (split_parts 58 c.args.text.now None c.in-None.ensures.cases (omega arith)))

use Rattle.std.proofs.Common.{◌∙◌, ap, sym}
use Rattle.std.proofs.lemmas.Result.{IfOk-weaker}
use Rattle.lexer.specs.Lines.{reading}
use Rattle.lexer.proofs.ReadingLaws.{reading_is}
use Rattle.lexer.proofs.lines.logical_lines.Goals as goal

pub returns-clause-laid_out : goal.returns-clause-laid_out
returns-clause-laid_out c =
    IfOk-weaker c.read.result _ _
    (λ r e. reading_is c.args.text.now r.lines (ap reading (sym c.as_bytes.ensures.value) ∙ e))
    c.read.ensures.lines

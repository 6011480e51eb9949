use Rattle.std.proofs.Common.{sym, ap, ◌∙◌, subst}
use Rattle.std.proofs.lemmas.Result.{IfOk-weaker}
use Rattle.std.specs.Option.{option_map}
use Rattle.grammar.specs.Ahead.{tokens_seen}
use Rattle.lexer.specs.Tokens.{line_tokens}
use Rattle.grammar.specs.LineExpression.{IsExpression}
use Rattle.grammar.specs.TreeView.{tree_of}
use Rattle.grammar.proofs.LineTokens.{without_places}
use Rattle.grammar.proofs.WholeLines.{is_expression, some_same}
use Rattle.descent.proofs.whole.line_expression.Goals as goal

pub returns : goal.returns
returns c line e =
    let text = c.args.lines.now.text in
    let ts = c.line.result.now in
    let same = some_same (sym c.line.ensures ∙ e) in
    let plain = ap line_tokens (sym same) ∙ without_places text ts in
    IfOk-weaker c.read_all.result _ _
    (λ r f. subst (λ us. IsExpression us (option_map tree_of r)) (sym plain) (subst (λ o. IsExpression (tokens_seen text ts) o) (sym f) (is_expression (tokens_seen text ts))))
    c.read_all.ensures

use Rattle.std.proofs.Common.{map, ap, ◌∙◌, ◌++◌, [], ◌∷◌}
use Rattle.std.specs.Prelude.{option_map}
use Rattle.std.specs.List.{cons_option}
use Rattle.grammar.specs.Ahead.{tokens_seen}
use Rattle.grammar.specs.Blocks.{laid}
use Rattle.statements.specs.BuiltView.{read_of}
use Rattle.statements.specs.FormView.{shaped_of}
use Rattle.lexer.specs.Seen.{seen}
use Rattle.statements.proofs.OutlinesMade.{laid_tokens}
use Rattle.statements.proofs.ReadLemmas.{outline_as, read_as}
use Rattle.statements.proofs.statement_pass.read_line.Goals as goal

pub returns-clause-outlines : goal.returns-clause-outlines
returns-clause-outlines c =
    let text = c.args.lines.now.text in
    let ts = c.args.tokens.now in
    c.in_ok-add.ensures.outlines
    ∙ ap (λ o. c.args.found.now.outlines.items ++ o ∷ [])
    (c.with_start.ensures.outline
    ∙ outline_as (laid (map (seen text) ts)) (tokens_seen text ts) c.start_of-number.result.0 c.start_of-number.result.1 c.is_text.result (option_map shaped_of c.in_ok-form.form)
    (c.start_of-number.ensures.line text) (c.start_of-number.ensures.column text) (laid_tokens text ts) (c.is_text.ensures text) c.in_ok-form.ensures)

pub returns-clause-reads : goal.returns-clause-reads
returns-clause-reads c ms =
    let text = c.args.lines.now.text in
    let ts = c.args.tokens.now in
    c.in_ok-add.ensures.reads read_of ms
    ∙ ap (λ r. map read_of c.args.found.now.reads.items ++ cons_option r ms)
    (c.with_start.ensures.read
    ∙ read_as (laid (map (seen text) ts)) (tokens_seen text ts) c.start_of-number.result.0 c.start_of-number.result.1 (option_map shaped_of c.in_ok-form.form)
    (c.start_of-number.ensures.line text) (c.start_of-number.ensures.column text) (laid_tokens text ts) c.in_ok-form.ensures)

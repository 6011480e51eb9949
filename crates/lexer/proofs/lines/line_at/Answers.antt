use Rattle.std.proofs.Common.{refl}
use Rattle.lexer.specs.Seen.{seen}
use Rattle.lexer.proofs.LineLemmas.{inner_line, last_line}
use Rattle.lexer.proofs.lines.line_at.Goals as goal

pub returns-then-next-starts : goal.returns-then-next-starts
returns-then-next-starts c text =
    inner_line (seen text) c.args.starts.now c.args.tokens.now c.between.result.now c.args.place _ _
    c.if-next-starts.true refl refl c.between.ensures

pub returns : goal.returns
returns c text =
    last_line (seen text) c.args.starts.now c.args.tokens.now c.between-2.result.now c.args.place _ _
    c.requires c.if-next-starts.false refl refl c.between-2.ensures

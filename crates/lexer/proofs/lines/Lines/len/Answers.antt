use Rattle.std.proofs.Common.{map, arith}
use Rattle.lexer.specs.Seen.{seen}
use Rattle.lexer.proofs.LineLemmas.{same_length}
use Rattle.lexer.proofs.lines.Lines.len.Goals as goal

pub returns : goal.returns
returns c =
    let a = c.self.inside in
    omega (arith, a.starts.ok, same_length a.starts.items (map (seen a.text.now) a.tokens.items) c.args.self.now a.text.now c.self.view_is)

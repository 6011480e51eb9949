use Rattle.std.proofs.Common.{◌≡◌, slice_get, map, Some, ap, sym, ◌∙◌, subst, arith}
use Rattle.lexer.specs.Seen.{seen}
use Rattle.lexer.specs.Lines.{Read, lines_at}
use Rattle.lexer.proofs.LineLemmas.{same_length}
use Rattle.lexer.proofs.lines.Lines.line.Goals as goal

pub line_at-requires : goal.line_at-requires
line_at-requires c =
    let a = c.self.inside in
    omega (arith, same_length a.starts.items (map (seen a.text.now) a.tokens.items) c.args.self.now a.text.now c.self.view_is)

pub returns : goal.returns
returns c =
    let a = c.self.inside in
    let text = a.text.now in
    let P : Read → Type 0 = λ r. slice_get r.lines c.args.place ≡ Some (map (seen r.text) c.line_at.result.now) in
    subst P c.self.view_is
    (ap (λ ps. slice_get (lines_at ps (map (seen text) a.tokens.items)) c.args.place) (sym c.as_slice-2.ensures.value)
    ∙ ap (λ ts. slice_get (lines_at c.as_slice-2.result.now (map (seen text) ts)) c.args.place) (sym c.as_slice.ensures.value)
    ∙ c.line_at.ensures text)

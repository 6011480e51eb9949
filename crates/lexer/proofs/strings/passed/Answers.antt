use Rattle.std.proofs.Common.{◌++◌, drop, ap, ◌∙◌, arith}
use Rattle.std.specs.Prelude.{bytes_eq}
use Rattle.std.proofs.lemmas.Option.{slice_get_within}
use Rattle.std.proofs.lemmas.Bool.Decides.{not_from_Decides}
use Rattle.lexer.proofs.StringLemmas.{goes_on_with, goes_on_otherwise}
use Rattle.lexer.proofs.strings.passed.Goals as goal

pub returns-then-is_at-clause-within : goal.returns-then-is_at-clause-within
returns-then-is_at-clause-within c =
    omega (arith, slice_get_within c.args.bytes.now c.args.place c.in-Some.meant (c.is_at.ensures.0 c.if-is_at.true))

pub returns-then-is_at-clause-value : goal.returns-then-is_at-clause-value
returns-then-is_at-clause-value c rest =
    ap (λ ms. bytes_eq (ms ++ rest) (drop c.args.place c.args.bytes.now)) c.in-Some.ensures.value
    ∙ goes_on_with c.args.bytes.now rest c.args.place c.in-Some.meant (c.is_at.ensures.0 c.if-is_at.true)

pub returns-else-is_at-clause-value : goal.returns-else-is_at-clause-value
returns-else-is_at-clause-value c rest =
    ap (λ ms. bytes_eq (ms ++ rest) (drop c.args.place c.args.bytes.now)) c.in-Some.ensures.value
    ∙ goes_on_otherwise c.args.bytes.now rest c.args.place c.in-Some.meant (not_from_Decides c.is_at.result c.is_at.ensures c.if-is_at.false)

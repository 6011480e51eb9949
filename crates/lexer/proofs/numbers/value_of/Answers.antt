use Rattle.std.proofs.Common.{refl, ◌∙◌}
use Rattle.lexer.proofs.NumberLemmas.{too_great}
use Rattle.lexer.proofs.numbers.value_of.Goals as goal

pub returns-then-value-digit : goal.returns-then-value-digit
returns-then-value-digit c =
    rw (too_great c.loop-b.value _ c.from-digit.result c.loop-b.b-index c.args.rest.now c.loop-b-test.true
    (c.from-digit.ensures ∙ c.saturating_sub-in-loop-b.ensures) c.if-value-digit.true c.loop-b.invariant.0) refl

use Rattle.std.proofs.Common.{◌∙◌, arith, rules, sym, true≢false}
use Rattle.std.proofs.lemmas.Grind.{common_steps}
use Rattle.packing.proofs.whole.pack.Goals.{else-strict-via-else-strict, else-strict-via-then-strict+else-not-is_empty}
use Rattle.packing.proofs.whole.pack.Goals as goal

pub returns-in-Err-clause-refuses : goal.returns-in-Err-clause-refuses
returns-in-Err-clause-refuses g c = c.in-Err.ensures.refuses c.args.strict

pub returns-in-Err-write_all-clause-beginning : goal.returns-in-Err-write_all-clause-beginning
returns-in-Err-write_all-clause-beginning g c e = (
  c.in-Ok.packed,
  c.in-Ok.ensures.packs,
  (λ strict. elim c.else-strict.branch [
    | else-strict-via-then-strict+else-not-is_empty w ↦ grind (arith, common_steps)
    | else-strict-via-else-strict w ↦ absurd (true≢false (sym strict ∙ w.if-strict.false))
  ]),
  search rules,
)

use Rattle.std.proofs.Common.{arith}
use Rattle.strings.specs.Splitting.{parts}
use Rattle.strings.proofs.Cuts.{too_many}
use Rattle.strings.proofs.splitting.count.Goals as goal

pub returns-then-parts-eq-MOST_ITEMS : goal.returns-then-parts-eq-MOST_ITEMS
returns-then-parts-eq-MOST_ITEMS c =
    too_many c.args.separator.now c.loop-behind.rest.now c.in-Some.behind.now c.in-Some.field-0-0.now (parts c.args.separator.now c.args.text.now)
    c.in-Some.ensures.parts (let i = c.loop-behind.invariant.2 in omega (arith, i, c.if-parts-eq-MOST_ITEMS.true))

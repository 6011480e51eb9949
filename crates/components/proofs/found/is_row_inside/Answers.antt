use Rattle.std.proofs.Common.{arith, refl, true≢false, sym}
use Rattle.components.proofs.Resting.{listed}
use Rattle.components.proofs.found.is_row_inside.Goals as goal

pub returns-then-number-nodes : goal.returns-then-number-nodes
returns-then-number-nodes c = (
  λ never. absurd (true≢false (sym never)),
  λ inside.
      let low = inside c.d-item.result (listed c.args.list.now c.args.list.now c.loop-d.d-index c.d-item.result refl c.loop-d-test.true c.d-item.is) in
      absurd (omega (arith, low, c.if-number-nodes.true, c.number.ensures)),
)

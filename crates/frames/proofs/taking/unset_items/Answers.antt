use Rattle.std.proofs.Common.{ap, arith, length}
use Rattle.frames.proofs.Popping.{one-more}
use Rattle.frames.proofs.taking.unset_items.Goals as goal

pub loop-init : goal.loop-init
loop-init c = ap length c.in_ok-items.ensures

pub loop-preserved : goal.loop-preserved
loop-preserved c = one-more c.loop.items _ c.in_ok-push.ensures.ok c.loop.invariant

pub returns : goal.returns
returns c = omega (arith, c.loop.invariant, c.loop-test.false, c.loop.auto.counter-end)

use Rattle.claims.proofs.Turns.{take-next}
use Rattle.claims.proofs.comparable.shares.Goals as goal

pub loop-text-preserved : goal.loop-text-preserved
loop-text-preserved c =
    take-next c.args.texts.now c.loop-text.text-index c.text-item.result c.in_ok-share.field-0 c.loop-text.shares.items c.push.new.self.items c.loop-text-test.true
    c.text-item.is c.loop-text.invariant c.in_ok-push.ensures.items c.in_ok-share.ensures

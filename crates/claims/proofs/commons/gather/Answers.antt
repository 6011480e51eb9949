use Rattle.std.proofs.Common.{◌+◌, drop}
use Rattle.claims.proofs.Turns.{gathered-begun, gathered-found, gathered-next}
use Rattle.claims.proofs.commons.gather.Goals as goal

pub loop-claim-preserved : goal.loop-claim-preserved
loop-claim-preserved c =
    let had = c.loop-claim.gatherer in let cs = c.args.claims.now in let i = c.loop-claim.claim-index in
    gathered-next cs i c.claim-item.result had.path had.members had.found.items _ _ c.loop-claim-test.true c.claim-item.is (c.in_ok-take.ensures (drop (i + 1) cs))
    c.loop-claim.invariant

pub loop-claim-init : goal.loop-claim-init
loop-claim-init c = gathered-begun c.new-2.result.items c.in_ok-new.field-0 c.new-3.result c.args.claims.now c.new-2.ensures.items c.in_ok-new.ensures c.new-3.ensures

pub returns : goal.returns
returns c =
    let had = c.loop-claim.gatherer in
    gathered-found c.args.claims.now c.loop-claim.claim-index had.path had.members had.found.items c.close.new.self.found.items _ c.loop-claim-test.false c.in_ok-close.ensures.found
    c.loop-claim.invariant

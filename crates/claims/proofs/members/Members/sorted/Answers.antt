use Rattle.claims.proofs.Turns.{take-next}
use Rattle.claims.proofs.members.Members.sorted.Goals as goal

pub loop-member-preserved : goal.loop-member-preserved
loop-member-preserved c =
    take-next c.args.members.now c.loop-member.member-index c.member-item.result c.in_ok-share.field-0 c.loop-member.items.items c.push.new.self.items c.loop-member-test.true
    c.member-item.is c.loop-member.invariant c.in_ok-push.ensures.items c.in_ok-share.ensures

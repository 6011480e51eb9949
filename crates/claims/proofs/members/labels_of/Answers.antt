use Rattle.claims.specs.Members.{label_of}
use Rattle.claims.proofs.Turns.{map-next}
use Rattle.claims.proofs.members.labels_of.Goals as goal

pub loop-member-preserved : goal.loop-member-preserved
loop-member-preserved c =
    map-next label_of c.args.members.now c.loop-member.member-index c.member-item.result c.in_ok-share.field-0 c.loop-member.labels c.push.new.self c.loop-member-test.true
    c.member-item.is c.loop-member.invariant c.in_ok-push.ensures.ok c.in_ok-share.ensures

use Rattle.std.proofs.Common.{refl}
use Rattle.claims.specs.Members.{place_of}
use Rattle.claims.proofs.Turns.{map-next}
use Rattle.claims.proofs.members.places_of.Goals as goal

pub loop-member-preserved : goal.loop-member-preserved
loop-member-preserved c =
    map-next place_of c.args.members.now c.loop-member.member-index c.member-item.result c.member-item.result.place c.loop-member.items.items c.push.new.self.items c.loop-member-test.true
    c.member-item.is c.loop-member.invariant c.in_ok-push.ensures.items refl

use Rattle.std.proofs.Common.{ap}
use Rattle.claims.specs.Seen.{noted}
use Rattle.claims.proofs.Turns.{leaders-begun, leaders-found, leaders-next}
use Rattle.claims.proofs.leaders.leaders.Goals as goal

pub loop-place-preserved : goal.loop-place-preserved
loop-place-preserved c =
    leaders-next c.args.marks.now c.loop-place.firsts c.leader.new.self c.args.owned.now c.loop-place.place c.index-owned-place.result c.is_marked.result c.in_ok-leader.leader
    c.loop-place.leaders.items c.push.new.self.items _ c.loop-place-test.true c.index-owned-place.is c.is_marked.ensures c.in_ok-leader.ensures.place c.in_ok-leader.ensures.noted
    c.in_ok-push.ensures.items c.loop-place.invariant

pub loop-place-init : goal.loop-place-init
loop-place-init c =
    leaders-begun c.args.marks.now (noted c.new.result.entries) c.new-leaders.result.items c.args.owned.now (ap noted c.new.ensures.empty) c.new-leaders.ensures.items

pub returns : goal.returns
returns c = leaders-found c.args.marks.now c.loop-place.firsts c.args.owned.now c.loop-place.place c.loop-place.leaders.items _ c.loop-place-test.false c.loop-place.invariant

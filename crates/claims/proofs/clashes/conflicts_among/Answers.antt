use Rattle.std.proofs.lemmas.List.{take_all}
use Rattle.std.proofs.Common.{◌∙◌, ap, flat_map}
use Rattle.claims.specs.Conflicts.{conflict_by}
use Rattle.claims.proofs.Turns.{flat-next}
use Rattle.claims.proofs.clashes.conflicts_among.Goals as goal

pub loop-common-preserved : goal.loop-common-preserved
loop-common-preserved c =
    flat-next (conflict_by c.args.leaders.now) c.args.commons.now c.loop-common.common-index c.common-item.result c.loop-common.found.items c.put_conflict.new.found.items
    c.loop-common-test.true c.common-item.is c.loop-common.invariant c.in_ok-put_conflict.ensures

pub returns : goal.returns
returns c =
    c.loop-common.invariant ∙ ap (flat_map (conflict_by c.args.leaders.now)) (take_all c.loop-common.common-index c.args.commons.now c.loop-common-test.false)

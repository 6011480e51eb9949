use Rattle.contexts.proofs.Placing.{here, later}
use Rattle.contexts.proofs.dependencies.place_among.Goals as goal

pub returns-then-is_same : goal.returns-then-is_same
returns-then-is_same c =
    here c.args.all.now c.loop-place.place c.index-all-place.result c.args.label.now c.get.result.now c.is_same.result c.loop-place-test.true c.index-all-place.is c.get.ensures c.is_same.ensures c.if-is_same.true c.loop-place.invariant

pub loop-place-preserved : goal.loop-place-preserved
loop-place-preserved c =
    later c.args.all.now c.loop-place.place c.index-all-place.result c.args.label.now c.get.result.now c.is_same.result c.loop-place-test.true c.index-all-place.is c.get.ensures c.is_same.ensures c.if-is_same.false c.loop-place.invariant

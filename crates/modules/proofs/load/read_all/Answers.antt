use Rattle.modules.proofs.Longer.{mapped_more, mapped_all}
use Rattle.modules.proofs.load.read_all.Goals as goal

pub loop-path-preserved : goal.loop-path-preserved
loop-path-preserved g c =
    mapped_more (g.E.Evaluate.meaning c.args.evaluator.now).read c.args.paths.now c.loop-path.path-index c.path-item.result c.in_ok-read.field-0 c.loop-path.files.items c.loop-path-test.true c.path-item.is c.in_ok-push.ensures.items c.in_ok-read.ensures
    c.loop-path.invariant

pub returns : goal.returns
returns g c = mapped_all (g.E.Evaluate.meaning c.args.evaluator.now).read c.args.paths.now c.loop-path.path-index c.loop-path.files.items c.loop-path-test.false c.loop-path.invariant

use Rattle.std.proofs.Common.{sym, ◌∙◌}
use Rattle.std.proofs.lemmas.List.{at_drop_all}
use Rattle.loading.specs.Loads.{loads_fault}
use Rattle.modules.proofs.Founds.{loads_on}
use Rattle.modules.proofs.faults.loads_fault.Goals as goal

pub loop-load-preserved : goal.loop-load-preserved
loop-load-preserved g c =
    loads_on (g.E.Evaluate.meaning c.args.evaluator.now).globals c.args.path.now (g.F.Find.at c.args.modules.now) c.args.loads.now c.loop-load.load-index c.load-item.result c.in_ok-fault.field-0 c.loop-load-test.true c.load-item.is c.in_ok-fault.ensures c.in_default.is c.loop-load.invariant

pub returns : goal.returns
returns g c =
    sym (c.loop-load.invariant ∙ at_drop_all (loads_fault {S = g.row.S.Denot} {K = g.row.K.Denot} (g.E.Evaluate.meaning c.args.evaluator.now).globals c.args.path.now (g.F.Find.at c.args.modules.now)) c.args.loads.now c.loop-load.load-index c.loop-load-test.false)

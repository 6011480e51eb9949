use Rattle.modules.proofs.Founds.{any_faults}
use Rattle.modules.proofs.loaded.Modules.load_fault.Goals as goal

pub returns-clause-known : goal.returns-clause-known
returns-clause-known g c = λ w is same. any_faults w c.args.self.now (g.E.Evaluate.meaning c.args.evaluator.now).globals c.args.path.now c.args.loads.now is same c.loads_fault.result c.loads_fault.ensures

use Rattle.load_graph.proofs.Naming.{loaded_by}
use Rattle.load_graph.proofs.paths.Paths.loaded.Goals as goal

pub returns-in-Some-clause-value : goal.returns-in-Some-clause-value
returns-in-Some-clause-value c = loaded_by c.args.self.now c.args.load.now.target c.in-Some.path.now c.find.result c.in-Some.ensures c.find.ensures.value

use Rattle.std.proofs.Common.{◌∙◌, subst}
use Rattle.load_graph.specs.Paths.{ArePaths}
use Rattle.load_graph.proofs.Finding.{found_in, not_found_in}
use Rattle.load_graph.proofs.paths.Paths.find.Goals as goal

pub returns-in-Ok-clause-value : goal.returns-in-Ok-clause-value
returns-in-Ok-clause-value c = found_in c.args.self.now c.deref.result.now c.args.path.now c.in-Ok.n c.of.result (c.deref.ensures.value ∙ c.self.view_is) c.of.ensures c.in-Ok.ensures.bound c.in-Ok.ensures.ok

pub returns-in-Err-clause-value : goal.returns-in-Err-clause-value
returns-in-Err-clause-value c = not_found_in c.args.self.now c.deref.result.now c.args.path.now c.in-Err.field-0 (c.deref.ensures.value ∙ c.self.view_is) (subst ArePaths c.self.view_is c.self.invariant) c.in-Err.ensures.position

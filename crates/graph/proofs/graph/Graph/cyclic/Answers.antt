use Rattle.std.proofs.Common.{◌↔◌, IsTrue, subst}
use Rattle.edges.specs.Edges.{EdgesView}
use Rattle.edges.specs.Rows.{row}
use Rattle.edges.specs.Walks.{Cyclic}
use Rattle.graph.proofs.graph.Graph.cyclic.Goals as goal

pub returns : goal.returns
returns c = subst (λ (e : EdgesView). IsTrue c.cyclic.result ↔ Cyclic (row e.deps) c.args.n) c.edges.ensures.edges c.cyclic.ensures

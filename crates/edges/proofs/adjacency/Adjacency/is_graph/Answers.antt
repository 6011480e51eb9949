use Rattle.std.proofs.Common.{arith, rules}
use Rattle.edges.proofs.Marks.{graph_of_rows}
use Rattle.edges.proofs.adjacency.Adjacency.is_graph.Goals as goal

pub returns : goal.returns
returns c = (
  λ t. graph_of_rows c.args.self.now (λ n low. c.loop-n.invariant.rows n (omega (arith, low, c.loop-n-test.false, c.len-n-end.ensures))),
  λ graph. search rules,
)

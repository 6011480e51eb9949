use Rattle.pool.proofs.Plans.{plan_distinct, plan_inside}
use Rattle.pool.proofs.opening.open_board.Goals as goal

pub over-requires-clause-distinct : goal.over-requires-clause-distinct
over-requires-clause-distinct g c = plan_distinct c.args.graph.now.deps c.args.graph.now.acyclic c.acyclic-nodes.ensures.order c.acyclic-nodes.ensures.graph

pub over-requires-clause-inside : goal.over-requires-clause-inside
over-requires-clause-inside g c = plan_inside c.args.graph.now.deps c.args.graph.now.acyclic c.acyclic-nodes.ensures.order

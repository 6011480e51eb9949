use Rattle.reporting.proofs.BlockLemmas.{nodes_more}
use Rattle.reporting.proofs.blocks.owned_actions.Goals as goal

pub loop-node-preserved : goal.loop-node-preserved
loop-node-preserved c =
    nodes_more c.args.nodes.now c.loop-node.node-index c.node-item.result c.loop-node.owned.items c.own_node.new.owned.items c.loop-node-test.true c.node-item.is
    c.loop-node.invariant c.in_ok-own_node.ensures

use Rattle.std.proofs.Common.{◌≡◌, ◌++◌, map, drop}
use Rattle.reporting.specs.Seen.{block_seen, blocks_of, nodes_seen}
use Rattle.reporting.proofs.blocks.blocks.Given as goal

abbrev pub invariant-loop-node : goal.invariant-loop-node
invariant-loop-node l =
    map block_seen l.blocks.items ++ blocks_of l.rest (nodes_seen (drop l.node-index l.nodes)) ≡ blocks_of l.tellings (nodes_seen l.nodes)

use Rattle.std.proofs.Common.{◌≡◌, map, take, slice_index}
use Rattle.edges.proofs.numbering.fill_with.Given as goal

abbrev pub invariant-loop-node : goal.invariant-loop-node
invariant-loop-node l = l.list.items ≡ map (slice_index l.places) (take l.node-index l.nodes)

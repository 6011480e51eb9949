use Rattle.std.proofs.Common.{◌≡◌, take, map}
use Rattle.graph.specs.Same.{label_at}
use Rattle.graph.proofs.graph.labels_of.Given as goal

abbrev pub invariant-loop-node : goal.invariant-loop-node
invariant-loop-node l = l.labels.items ≡ map (label_at l.numbers) (take l.node-index l.nodes)

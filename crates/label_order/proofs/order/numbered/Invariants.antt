use Rattle.std.proofs.Common.{◌≡◌, map}
use Rattle.std.specs.List.{All, range_with_len}
use Rattle.graph.specs.Same.{label_at}
use Rattle.label_order.specs.Ordered.{keyed_seen, IsKeyed}
use Rattle.label_order.proofs.order.numbered.Given as goal

abbrev pub invariant-loop-n : goal.invariant-loop-n
invariant-loop-n l = (map keyed_seen l.all.items ≡ map (λ n. (label_at l.graph.labels n, n)) (range_with_len 0 l.n)) × All IsKeyed l.all.items

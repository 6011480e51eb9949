use Rattle.std.proofs.Common.{◌≡◌, filter, nat_eq, slice_index}
use Rattle.std.specs.List.{range_with_len}
use Rattle.edges.proofs.countdown.starts.Given as goal

abbrev pub invariant-loop-n : goal.invariant-loop-n
invariant-loop-n l = l.order.items ≡ filter (λ n. nat_eq (slice_index l.left n) 0) (range_with_len 0 l.n)

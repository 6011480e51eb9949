use Rattle.std.proofs.Common.{◌≡◌, ◌++◌, filter, nat_eq, not, slice_index}
use Rattle.std.specs.List.{range_with_len}
use Rattle.edges.proofs.numbering.append_rest.Given as goal

abbrev pub invariant-loop-n : goal.invariant-loop-n
invariant-loop-n l = l.order.items ≡ l.initial.order.items ++ filter (λ n. not (nat_eq (slice_index l.left n) 0)) (range_with_len 0 l.n)

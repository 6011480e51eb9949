use Rattle.std.proofs.Common.{◌≡◌, filter, length, nat_eq}
use Rattle.std.specs.List.{range_with_len}
use Rattle.edges.specs.Rows.{row}
use Rattle.edges.proofs.edges.ready_of.Given as goal

abbrev pub invariant-loop-n : goal.invariant-loop-n
invariant-loop-n l = l.ready.items ≡ filter (λ n. nat_eq (length (row l.deps n)) 0) (range_with_len 0 l.n)

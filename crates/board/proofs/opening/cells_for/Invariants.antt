use Rattle.std.proofs.Common.{◌≡◌, ◌≤◌, vec_len, vec_capacity}
use Rattle.board.proofs.opening.cells_for.Given as goal

abbrev pub invariant-loop : goal.invariant-loop
invariant-loop g l = record {
  count : vec_len l.cells ≡ l.counter;
  room : l.nodes ≤ vec_capacity l.cells;
}

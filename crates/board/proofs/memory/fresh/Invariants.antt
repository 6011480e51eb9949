use Rattle.std.proofs.Common.{◌≡◌, ◌≤◌, length, map, take, vec_len, vec_capacity}
use Rattle.std.specs.Prelude.{None}
use Rattle.once_cell.specs.Once.{cell_name}
use Rattle.board.specs.Views.{cells_of, knowns_of}
use Rattle.board.proofs.memory.fresh.Given as goal

abbrev pub invariant-loop-cell : goal.invariant-loop-cell
invariant-loop-cell g l = record {
  count : vec_len l.notes ≡ l.cell-index;
  room : length l.cells ≤ vec_capacity l.notes;
  cells : cells_of l.notes.items ≡ map cell_name (take l.cell-index l.cells);
  knowns : knowns_of l.notes.items ≡ map (λ _. None) (take l.cell-index l.cells);
}

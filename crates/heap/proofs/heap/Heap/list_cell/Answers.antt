use Rattle.std.proofs.Common.{ap, ◌∙◌, subst, arith, length, ◌≤◌}
use Rattle.heap.specs.Cells.{list_changed}
use Rattle.heap.proofs.CellLemmas.{put_at-past}
use Rattle.heap.proofs.heap.Heap.list_cell.Goals as goal

-- a number past the cells names none
pub returns-else-number-len : goal.returns-else-number-len
returns-else-number-len c f =
    ap (λ v. list_changed f c.args.self.now v) c.in-Cell.is
    ∙ put_at-past f c.args.self.now c.in-Cell.number (subst (λ l. length l ≤ c.in-Cell.number) c.self.view_is (omega arith))

use Rattle.std.proofs.Common.{ap, ◌∙◌, subst, arith, length, ◌≤◌, Some}
use Rattle.heap.specs.Cells.{after, walk_begun, walk_begun_at}
use Rattle.heap.proofs.CellLemmas.{put_at-past}
use Rattle.heap.proofs.heap.Heap.walked_cell.Goals as goal

-- a number past the cells names none
pub returns-else-number-len : goal.returns-else-number-len
returns-else-number-len c =
    ap (λ v. walk_begun_at c.args.self.now v) c.in-Cell.is
    ∙ ap (after (λ g. (Some c.in-Cell.number, g)))
    (put_at-past walk_begun c.args.self.now c.in-Cell.number (subst (λ l. length l ≤ c.in-Cell.number) c.self.view_is (omega arith)))

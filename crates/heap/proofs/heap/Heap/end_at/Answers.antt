use Rattle.std.proofs.Common.{sym, ap, ◌∙◌, arith, slice_set, subst, length, ◌<◌, ◌≤◌}
use Rattle.heap.specs.Cells.{ended_at}
use Rattle.heap.proofs.CellLemmas.{ended_at-set, ended_at-past, get_at}
use Rattle.heap.proofs.heap.Heap.end_at.Goals as goal

pub returns-then-number-len : goal.returns-then-number-len
returns-then-number-len c =
    let cs = c.self.inside.cells.items in
    let n = c.args.number in
    let within : n < length cs = omega (arith, c.if-number-len.true, c.len.ensures) in
    ap (slice_set cs n) c.end_in.ensures
    ∙ sym (ended_at-set cs n c.index_mut.result.now (get_at cs n c.index_mut.result.now within c.index_mut.ensures.value))
    ∙ ap (λ h. ended_at h n) c.self.view_is

-- a number past the cells names none
pub returns-else-number-len : goal.returns-else-number-len
returns-else-number-len c =
    let past : length c.self.inside.cells.items ≤ c.args.number = omega (arith, c.if-number-len.false, c.len.ensures) in
    sym (ended_at-past c.args.self.now c.args.number (subst (λ l. length l ≤ c.args.number) c.self.view_is past))

use Rattle.std.proofs.Common.{◌≡◌, sym, ap, ◌∙◌, subst, length, ◌<◌, slice_get, Some, IsSomeAnd}
use Rattle.std.proofs.lemmas.Result.{err_from_is_err_and}
use Rattle.ticks.specs.Ticking.{FaultOr}
use Rattle.heap.specs.Cells.{walk_begun, put_at, after, walk_begun_at, IsFull, IsFullAt}
use Rattle.heap.proofs.CellLemmas.{put_at-ok, fault_at, get_at, set_back, fault-after}
use Rattle.heap.proofs.heap.Heap.begin_walk.Goals as goal

-- a refused change of the cell leaves the cell as it was, and so the heap
pub returns-in_err-begin_in-clause-begun : goal.returns-in_err-begin_in-clause-begun
returns-in_err-begin_in-clause-begun c =
    let same = err_from_is_err_and c.from_residual.result c.from_residual.ensures.1 in
    let number = c.in-Ok-Some.number in
    let found = rw c.in-Ok-Some.field-0-is at c.in-Ok-Some.ensures in
    let within : number < length c.self.inside.cells.items = subst (λ l. number < length l) (sym c.self.view_is) found.0 in
    let at = get_at c.self.inside.cells.items number c.index_mut-cell.result.now within c.index_mut-cell.ensures.value in
    let old = subst (λ h. slice_get h number ≡ Some c.index_mut-cell.result.now) c.self.view_is at in
    rw (same.1, same.2) (
      set_back c.self.inside.cells.items number c.index_mut-cell.result.now _ at c.in_err-begin_in.ensures.begun.0 ∙ c.self.view_is,
      subst (λ v. FaultOr (walk_begun_at c.args.self.now v) c.in_err-begin_in.field-0.0) (sym found.1)
          (fault-after (λ g. (Some number, g)) (put_at c.args.self.now number walk_begun) c.in_err-begin_in.field-0.0
          (fault_at walk_begun c.args.self.now number c.index_mut-cell.result.now c.in_err-begin_in.field-0.0 old c.in_err-begin_in.ensures.begun.1)),
    )

-- the cell that is full is the one that the value names
pub returns-in_err-begin_in-clause-full : goal.returns-in_err-begin_in-clause-full
returns-in_err-begin_in-clause-full c =
    let same = err_from_is_err_and c.from_residual.result c.from_residual.ensures.1 in
    let number = c.in-Ok-Some.number in
    let found = rw c.in-Ok-Some.field-0-is at c.in-Ok-Some.ensures in
    let within : number < length c.self.inside.cells.items = subst (λ l. number < length l) (sym c.self.view_is) found.0 in
    let at = get_at c.self.inside.cells.items number c.index_mut-cell.result.now within c.index_mut-cell.ensures.value in
    let old = subst (λ h. slice_get h number ≡ Some c.index_mut-cell.result.now) c.self.view_is at in
    rw (same.1, same.2) (λ e. subst (IsFullAt c.args.self.now) (sym found.1) (subst (λ o. IsSomeAnd o IsFull) (sym old) (c.in_err-begin_in.ensures.full e)))

-- the cell is changed in its place
pub returns-clause-begun : goal.returns-clause-begun
returns-clause-begun c =
    let number = c.in-Ok-Some.number in
    let found = rw c.in-Ok-Some.field-0-is at c.in-Ok-Some.ensures in
    let within : number < length c.self.inside.cells.items = subst (λ l. number < length l) (sym c.self.view_is) found.0 in
    let at = get_at c.self.inside.cells.items number c.index_mut-cell.result.now within c.index_mut-cell.ensures.value in
    ap (λ v. walk_begun_at c.args.self.now v) found.1
    ∙ ap (λ h. after (λ g. (Some number, g)) (put_at h number walk_begun)) (sym c.self.view_is)
    ∙ ap (after (λ g. (Some number, g))) (put_at-ok walk_begun c.self.inside.cells.items number c.index_mut-cell.result.now _ at c.in_ok-begin_in.ensures.begun)

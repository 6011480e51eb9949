use Rattle.std.proofs.Common.{◌≡◌, refl, sym, ap, ◌∙◌, subst, length, ◌<◌, slice_get, Some}
use Rattle.std.proofs.lemmas.Result.{err_from_is_err_and}
use Rattle.ticks.specs.Ticking.{FaultOr}
use Rattle.heap.specs.Cells.{pushed, put_at, list_changed}
use Rattle.heap.proofs.CellLemmas.{put_at-ok, fault_at, get_at, set_back}
use Rattle.heap.proofs.heap.Heap.append.Goals as goal

-- what is no such cell leaves the heap as it was
pub returns-in_err-changed : goal.returns-in_err-changed
returns-in_err-changed c =
    let same = err_from_is_err_and c.from_residual.result c.from_residual.ensures.1 in
    rw (same.1, same.2) (refl, c.in_err-changed.ensures (pushed c.args.item))

-- a refused change of the cell leaves the cell as it was, and so the heap
pub returns-in_err-push_to : goal.returns-in_err-push_to
returns-in_err-push_to c =
    let same = err_from_is_err_and c.from_residual-in_err-push_to.result c.from_residual-in_err-push_to.ensures.1 in
    let number = c.in_ok-changed.changed in
    let within : number < length c.self.inside.cells.items = subst (λ l. number < length l) (sym c.self.view_is) c.in_ok-changed.ensures.0 in
    let at = get_at c.self.inside.cells.items number c.index_mut-cell.result.now within c.index_mut-cell.ensures.value in
    let old = subst (λ h. slice_get h number ≡ Some c.index_mut-cell.result.now) c.self.view_is at in
    rw (same.1, same.2) (
      set_back c.self.inside.cells.items number c.index_mut-cell.result.now _ at c.in_err-push_to.ensures.0 ∙ c.self.view_is,
      subst (λ v. FaultOr (list_changed (pushed c.args.item) c.args.self.now v) c.in_err-push_to.field-0.0) (sym c.in_ok-changed.ensures.1)
          (fault_at (pushed c.args.item) c.args.self.now number c.index_mut-cell.result.now c.in_err-push_to.field-0.0 old c.in_err-push_to.ensures.1),
    )

-- the cell is changed in its place
pub returns : goal.returns
returns c =
    let number = c.in_ok-changed.changed in
    let within : number < length c.self.inside.cells.items = subst (λ l. number < length l) (sym c.self.view_is) c.in_ok-changed.ensures.0 in
    let at = get_at c.self.inside.cells.items number c.index_mut-cell.result.now within c.index_mut-cell.ensures.value in
    ap (λ v. list_changed (pushed c.args.item) c.args.self.now v) c.in_ok-changed.ensures.1
    ∙ ap (λ h. put_at h number (pushed c.args.item)) (sym c.self.view_is)
    ∙ put_at-ok (pushed c.args.item) c.self.inside.cells.items number c.index_mut-cell.result.now _ at c.in_ok-push_to.ensures

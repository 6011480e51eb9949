use Rattle.std.proofs.Common.{◌∙◌, ap, inl, inr, map, sym}
use Rattle.std.specs.Iterator.Adapters.{zip_first, zip_second}
use Rattle.std.specs.Slice.Iter.{iter_rest}
use Rattle.std.specs.Vec.Iter.{into_iter_items}
use Rattle.modules.specs.Modules.{value_in, faults_in}
use Rattle.modules.proofs.Outcomes.{both_spent, nothing_more}
use Rattle.modules.proofs.sorting.sorted_out.Goals as goal

pub returns-clause-values : goal.returns-clause-values
returns-clause-values g c =
    let it = c.loop-path.path-iterator in
    let had = c.loop-path.invariant in
    let spent = both_spent (iter_rest (zip_first it)) (into_iter_items (zip_second it)) had.size (elim c.in-None.ensures.steps [ inl e ↦ inl e.1.0 | inr e ↦ inr (sym had.long ∙ e.1.0) ]) in
    nothing_more c.loop-path.values.items _ _ (ap (map value_in) spent.1) had.values

pub returns-clause-faults : goal.returns-clause-faults
returns-clause-faults g c =
    let it = c.loop-path.path-iterator in
    let had = c.loop-path.invariant in
    let spent = both_spent (iter_rest (zip_first it)) (into_iter_items (zip_second it)) had.size (elim c.in-None.ensures.steps [ inl e ↦ inl e.1.0 | inr e ↦ inr (sym had.long ∙ e.1.0) ]) in
    nothing_more c.loop-path.faults.items _ _ (λ j. faults_in (spent.0 j) (spent.1 j)) had.faults

use Rattle.std.proofs.Common.{◌∙◌, sym, subst, ap}
use Rattle.ticks.specs.Extents.{IsExtent}
use Rattle.values.specs.Extents.{pairs_measure, values_measure}
use Rattle.values.specs.Tree.{pairs}
use Rattle.values.proofs.ExtentLemmas.{pairs-values}
use Rattle.values.proofs.frozen.Branch.dict.Goals as goal

pub of-requires-clause-noted : goal.of-requires-clause-noted
of-requires-clause-noted c =
    subst (IsExtent c.of_entries-parts.result)
    (ap values_measure c.as_slice.ensures.value ∙ sym (pairs-values c.args.keys.keys c.args.values.items c.requires)
    ∙ ap (λ k. pairs_measure (pairs k.keys c.args.values.items)) (sym c.in_ok-keys.ensures.ok)) c.of_entries-parts.ensures

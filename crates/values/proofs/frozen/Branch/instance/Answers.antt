use Rattle.std.proofs.Common.{subst}
use Rattle.ticks.specs.Extents.{IsExtent}
use Rattle.values.specs.Extents.{slots_measure}
use Rattle.values.specs.Tree.{slots}
use Rattle.values.proofs.frozen.Branch.instance.Goals as goal

pub of-requires-clause-noted : goal.of-requires-clause-noted
of-requires-clause-noted c = subst (λ xs. IsExtent c.of_fields-parts.result (slots_measure (slots xs))) c.as_slice.ensures.value c.of_fields-parts.ensures

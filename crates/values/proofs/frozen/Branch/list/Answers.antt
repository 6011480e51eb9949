use Rattle.std.proofs.Common.{subst}
use Rattle.ticks.specs.Extents.{IsExtent}
use Rattle.values.specs.Extents.{trees_measure}
use Rattle.values.specs.Tree.{trees}
use Rattle.values.proofs.frozen.Branch.list.Goals as goal

pub of-requires-clause-noted : goal.of-requires-clause-noted
of-requires-clause-noted c = subst (λ xs. IsExtent c.of_items-parts.result (trees_measure (trees xs))) c.as_slice.ensures.value c.of_items-parts.ensures

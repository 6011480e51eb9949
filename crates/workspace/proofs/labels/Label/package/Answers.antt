use Rattle.workspace.proofs.KeptLabels.{package_begins}
use Rattle.workspace.proofs.labels.Label.«package».Goals as goal

pub range-requires-clause-start_boundary : goal.range-requires-clause-start_boundary
range-requires-clause-start_boundary c _ =
    package_begins c.as_str.result.now c.self.inside.size c.as_str.utf8 (rw c.as_str.ensures c.self.invariant)

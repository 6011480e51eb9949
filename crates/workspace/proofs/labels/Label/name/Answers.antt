use Rattle.workspace.proofs.KeptLabels.{name_begins}
use Rattle.workspace.proofs.labels.Label.name.Goals as goal

pub range_from-requires : goal.range_from-requires
range_from-requires c _ = name_begins c.as_str.result.now c.self.inside.size c.as_str.utf8 (rw c.as_str.ensures c.self.invariant)

use Rattle.std.proofs.Common.{◌≡◌, take}
use Rattle.graph.proofs.graph.shared.Given as goal

abbrev pub invariant-loop-label : goal.invariant-loop-label
invariant-loop-label l = l.all.items ≡ take l.label-index l.labels

use Rattle.std.proofs.Common.{◌≡◌, ◌++◌, drop, map}
use Rattle.analysis.specs.Needed.{label_tree}
use Rattle.analysis.proofs.needed.label_trees.Given as goal

abbrev pub invariant-loop-label : goal.invariant-loop-label
invariant-loop-label l = l.trees.items ++ map label_tree (drop l.label-index l.labels) ≡ map label_tree l.labels

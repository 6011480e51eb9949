use Rattle.std.proofs.Common.{◌≡◌, ◌++◌, drop, map}
use Rattle.contexts.specs.Fields.{target_tree}
use Rattle.contexts.proofs.attributes.target_trees.Given as goal

abbrev pub invariant-loop-label : goal.invariant-loop-label
invariant-loop-label l = l.trees.items ++ map (target_tree l.dependencies) (drop l.label-index l.labels) ≡ map (target_tree l.dependencies) l.labels

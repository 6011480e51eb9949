use Rattle.std.proofs.Common.{◌≡◌, ◌++◌, ◌≤◌, drop, map, length}
use Rattle.depsets.specs.Listed.{walked}
use Rattle.values.specs.declared.cells.TheConstants.{LARGEST}
use Rattle.contexts.specs.Fields.{element_tree, files_listed}
use Rattle.contexts.proofs.listings.listed.Given as goal

abbrev pub invariant-loop-label : goal.invariant-loop-label
invariant-loop-label l =
    (l.trees.items ++ map element_tree (files_listed walked l.dependencies (drop l.label-index l.labels)) ≡ map element_tree (files_listed walked l.dependencies l.labels))
    × (length l.trees.items ≤ LARGEST)

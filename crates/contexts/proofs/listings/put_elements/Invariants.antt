use Rattle.std.proofs.Common.{◌≡◌, ◌++◌, map}
use Rattle.contexts.specs.Fields.{element_tree}
use Rattle.contexts.proofs.listings.put_elements.Given as goal

abbrev pub invariant-loop-element : goal.invariant-loop-element
invariant-loop-element l = l.trees.items ++ map element_tree l.element-iterator ≡ l.fn.trees.items ++ map element_tree l.elements

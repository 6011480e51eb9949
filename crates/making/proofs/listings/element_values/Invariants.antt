use Rattle.std.proofs.Common.{◌≡◌, ◌++◌, map}
use Rattle.operations.specs.Depsets.{element_value}
use Rattle.making.proofs.listings.element_values.Given as goal

abbrev pub invariant-loop-element : goal.invariant-loop-element
invariant-loop-element l = l.items ++ map element_value l.element-iterator ≡ map element_value l.elements

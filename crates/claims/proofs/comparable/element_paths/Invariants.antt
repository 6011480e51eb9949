use Rattle.std.proofs.Common.{◌≡◌, ◌++◌, flat_map}
use Rattle.claims.specs.Same.{element_paths}
use Rattle.claims.proofs.comparable.element_paths.Given as goal

abbrev pub invariant-loop-element : goal.invariant-loop-element
invariant-loop-element l = l.paths.items ++ flat_map element_paths l.element-iterator ≡ flat_map element_paths l.elements

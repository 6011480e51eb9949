use Rattle.std.proofs.Common.{◌≡◌, ◌++◌, ◌∷◌, drop, map}
use Rattle.program_tree.specs.Resolved.{binding_of}
use Rattle.syntax.proofs.resolver.bindings.Given as goal

abbrev pub invariant-loop-other : goal.invariant-loop-other
invariant-loop-other l = l.found.items ++ map (binding_of l.scope) (drop l.other-index l.others) ≡ map (binding_of l.scope) (l.first ∷ l.others)

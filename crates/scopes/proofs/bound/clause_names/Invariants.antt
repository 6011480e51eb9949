use Rattle.std.proofs.Common.{◌≡◌, ◌++◌, drop}
use Rattle.program_tree.specs.Names.{clause_names}
use Rattle.grammar.specs.TreeView.{rests}
use Rattle.scopes.proofs.bound.clause_names.Given as goal

abbrev pub invariant-loop-clause : goal.invariant-loop-clause
invariant-loop-clause l = l.found.items ++ clause_names (rests (drop l.clause-index l.clauses)) ≡ clause_names (rests l.clauses)

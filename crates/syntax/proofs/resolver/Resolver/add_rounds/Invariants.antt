use Rattle.std.proofs.Common.{◌≡◌, ◌≤◌, drop, map}
use Rattle.program_tree.specs.ProgramView as view
use Rattle.program_tree.specs.ProgramView.{rounds_onto}
use Rattle.program_tree.specs.Resolved as resolved
use Rattle.file_syntax.specs.Scopes.{rest_scoped}
use Rattle.grammar.specs.BareDepth.{rest_depth}
use Rattle.grammar.specs.TreeView.{rests}
use Rattle.syntax.proofs.resolver.Resolver.add_rounds.Given as goal

-- what is left breaks no rule where all breaks none, and stands behind what was resolved
abbrev pub invariant-loop-clause : goal.invariant-loop-clause
invariant-loop-clause g l =
    (rest_scoped l.initial.scope l.initial.scope (rests (drop l.clause-index l.clauses)) ≡ rest_scoped l.initial.scope l.initial.scope (rests l.clauses))
    × (rounds_onto (map view.round l.found.items) (resolved.rounds l.initial.scope l.initial.scope (rests (drop l.clause-index l.clauses))) ≡ rounds_onto (map view.round l.initial.found.items) (resolved.rounds l.initial.scope l.initial.scope (rests l.clauses)))
    × (l.scope ≡ l.initial.scope)
    × (rest_depth (rests (drop l.clause-index l.clauses)) ≤ l.self.turns)

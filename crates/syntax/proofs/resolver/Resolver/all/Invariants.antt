use Rattle.std.proofs.Common.{◌≡◌, ◌≤◌, drop, map}
use Rattle.program_tree.specs.ProgramView as view
use Rattle.program_tree.specs.ProgramView.{terms_onto}
use Rattle.program_tree.specs.Resolved as resolved
use Rattle.file_syntax.specs.Scopes.{trees_scoped}
use Rattle.grammar.specs.BareDepth.{trees_depth}
use Rattle.grammar.specs.TreeView.{trees}
use Rattle.syntax.proofs.resolver.Resolver.all.Given as goal

-- what is left breaks no rule where all breaks none, and stands behind what was resolved
abbrev pub invariant-loop-expr : goal.invariant-loop-expr
invariant-loop-expr g l =
    (trees_scoped l.initial.scope (trees (drop l.expr-index l.exprs)) ≡ trees_scoped l.initial.scope (trees l.exprs))
    × (terms_onto (map view.term l.found.items) (resolved.terms l.initial.scope (trees (drop l.expr-index l.exprs))) ≡ resolved.terms l.initial.scope (trees l.exprs))
    × (l.scope ≡ l.initial.scope)
    × (trees_depth (trees (drop l.expr-index l.exprs)) ≤ l.self.turns)

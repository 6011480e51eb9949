use Rattle.std.proofs.Common.{◌≡◌, ◌≤◌, drop, map}
use Rattle.program_tree.specs.ProgramView as view
use Rattle.program_tree.specs.ProgramView.{keywords_onto}
use Rattle.program_tree.specs.Resolved as resolved
use Rattle.file_syntax.specs.Scopes.{keywords_scoped}
use Rattle.grammar.specs.BareDepth.{keywords_depth}
use Rattle.grammar.specs.TreeView.{keywords}
use Rattle.syntax.proofs.resolver.Resolver.arguments.Given as goal

-- what is left breaks no rule where all breaks none, and stands behind what was resolved
abbrev pub invariant-loop-argument : goal.invariant-loop-argument
invariant-loop-argument g l =
    (keywords_scoped l.initial.scope (keywords (drop l.argument-index l.named)) ≡ keywords_scoped l.initial.scope (keywords l.named))
    × (keywords_onto (map view.argument l.found.items) (resolved.keywords l.initial.scope (keywords (drop l.argument-index l.named))) ≡ resolved.keywords l.initial.scope (keywords l.named))
    × (l.scope ≡ l.initial.scope)
    × (keywords_depth (keywords (drop l.argument-index l.named)) ≤ l.self.turns)

use Rattle.std.proofs.Common.{◌≡◌, ◌≤◌, drop, map}
use Rattle.program_tree.specs.ProgramView as view
use Rattle.program_tree.specs.ProgramView.{pairs_onto}
use Rattle.program_tree.specs.Resolved as resolved
use Rattle.file_syntax.specs.Scopes.{entries_scoped}
use Rattle.grammar.specs.BareDepth.{entries_depth}
use Rattle.grammar.specs.TreeView.{entries}
use Rattle.syntax.proofs.resolver.Resolver.pairs.Given as goal

-- what is left breaks no rule where all breaks none, and stands behind what was resolved
abbrev pub invariant-loop-pair : goal.invariant-loop-pair
invariant-loop-pair g l =
    (entries_scoped l.initial.scope (entries (drop l.pair-index l.written)) ≡ entries_scoped l.initial.scope (entries l.written))
    × (pairs_onto (map view.pair l.found.items) (resolved.pairs l.initial.scope (entries (drop l.pair-index l.written))) ≡ resolved.pairs l.initial.scope (entries l.written))
    × (l.scope ≡ l.initial.scope)
    × (entries_depth (entries (drop l.pair-index l.written)) ≤ l.self.turns)

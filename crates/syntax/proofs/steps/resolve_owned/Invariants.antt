use Rattle.std.proofs.Common.{◌≡◌, ◌≤◌, ◌++◌, List, length}
use Rattle.grammar.specs.BareDepth.{lines_depth}
use Rattle.grammar.specs.declared.statements.Line.{Line}
use Rattle.grammar.specs.LineView.{lines}
use Rattle.syntax.specs.Resolves.{IsLater}
use Rattle.syntax.proofs.steps.resolve_owned.Given as goal

-- what was made of the lines behind those that are left
abbrev pub invariant-loop-line : goal.invariant-loop-line
invariant-loop-line l =
    (behind : List Line)
    × (l.left.items ++ behind ≡ l.initial.left.items)
    × IsLater l.initial.scope (lines behind) l.later
    × (l.scope ≡ l.initial.scope)
    × (lines_depth (lines l.left.items) ≤ 200)

abbrev pub decreases-loop-line : goal.decreases-loop-line
decreases-loop-line l = length l.left.items

use Rattle.std.proofs.Common.{◌≡◌, ◌≤◌, ◌+◌, suc, drop, length}
use Rattle.grammar.specs.LineView.{lines}
use Rattle.syntax.specs.Resolves.{IsLater}
use Rattle.syntax.proofs.DepthLemmas.{count, own_count}
use Rattle.syntax.proofs.steps.+blocks.Given as goal

-- what was made of the lines behind those that are left
abbrev pub invariant-resolve_lines-loop-left : goal.invariant-resolve_lines-loop-left
invariant-resolve_lines-loop-left l =
    (l.left ≤ length l.lines)
    × IsLater l.initial.scope (lines (drop l.left l.lines)) l.later
    × (l.scope ≡ l.initial.scope)

abbrev pub decreases-resolve_lines-loop-left : goal.decreases-resolve_lines-loop-left
decreases-resolve_lines-loop-left l = l.left

-- each call has fewer lines before it, or as many and has gone into one of them
abbrev pub decreases-line_and_block : goal.decreases-line_and_block
decreases-line_and_block l = own_count l.line.now + own_count l.line.now

abbrev pub decreases-resolve_lines : goal.decreases-resolve_lines
decreases-resolve_lines l = suc (count (lines l.lines.now) + count (lines l.lines.now))

use Rattle.std.proofs.Common.{◌≡◌, ◌++◌, drop}
use Rattle.grammar.specs.LineView.{lines}
use Rattle.program_tree.specs.Names.{lines_bind}
use Rattle.scopes.proofs.bound.+add_lines.Given as goal

abbrev pub invariant-loop-line : goal.invariant-loop-line
invariant-loop-line l = l.found.items ++ lines_bind (lines (drop l.line-index l.lines)) ≡ l.initial.found.items ++ lines_bind (lines l.lines)

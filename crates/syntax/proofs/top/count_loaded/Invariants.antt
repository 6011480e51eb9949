use Rattle.std.proofs.Common.{◌≡◌, ◌++◌, drop}
use Rattle.grammar.specs.LineView.{lines}
use Rattle.program_tree.specs.Names.{loads_bind}
use Rattle.syntax.proofs.top.count_loaded.Given as goal

abbrev pub invariant-loop-line : goal.invariant-loop-line
invariant-loop-line l = l.names.items ++ loads_bind (lines (drop l.line-index l.lines)) ≡ loads_bind (lines l.lines)

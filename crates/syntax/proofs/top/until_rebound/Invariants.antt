use Rattle.std.proofs.Common.{◌≡◌, [], drop, map, take}
use Rattle.grammar.specs.BareLines.{Lines, no_lines}
use Rattle.grammar.specs.LineView.{line_of, lines}
use Rattle.program_tree.specs.Names.{Scope, or_else}
use Rattle.program_tree.specs.ProgramView.{onto}
use Rattle.file_syntax.specs.Scopes.{lines_fault, top_fault}
use Rattle.syntax.proofs.top.until_rebound.Given as goal

-- the lines before this one break no rule of the top level, so that only the rules of functions are left for them; and
-- the first that breaks one is among them, or behind them
abbrev pub invariant-loop-place : goal.invariant-loop-place
invariant-loop-place l =
    ((s : Scope) → top_fault s [] (lines l.lines) ≡ or_else (lines_fault s (onto (λ f r. f r) (map line_of (take l.place l.lines)) no_lines)) (top_fault s l.before.keys (lines (drop l.place l.lines))))
    × ((s : Scope) (rest : Lines) → lines_fault s (onto (λ f r. f r) (map line_of (take l.place l.lines)) rest) ≡ or_else (lines_fault s (onto (λ f r. f r) (map line_of (take l.place l.lines)) no_lines)) (lines_fault s rest))

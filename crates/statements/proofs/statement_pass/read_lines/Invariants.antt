use Rattle.std.proofs.Common.{◌≡◌, ◌++◌, map, drop}
use Rattle.std.specs.Prelude.{filter_map}
use Rattle.grammar.specs.Blocks.{laid}
use Rattle.statements.specs.BuiltView.{read_of}
use Rattle.statements.specs.FormView.{line_read, outline_read}
use Rattle.statements.proofs.statement_pass.read_lines.Given as goal

-- what was read, before what is read of the lines that are left, is what is read of all
abbrev pub invariant-loop-place : goal.invariant-loop-place
invariant-loop-place l =
    (map outline_read (map laid l.lines.lines) ≡ l.found.outlines.items ++ map outline_read (map laid (drop l.place l.lines.lines)))
    × (filter_map line_read (map laid l.lines.lines) ≡ map read_of l.found.reads.items ++ filter_map line_read (map laid (drop l.place l.lines.lines)))

use Rattle.std.proofs.Common.{◌≡◌, [], map, length}
use Rattle.grammar.specs.Built.{onto}
use Rattle.grammar.specs.LineView.{line_of}
use Rattle.statements.specs.BuiltView.{pendings, read_of}
use Rattle.statements.proofs.blocks.file_lines.Given as goal

-- the lines that are left, with those that were put into blocks, are all lines
abbrev pub invariant-loop-read : goal.invariant-loop-read
invariant-loop-read l = onto (map read_of l.left.items) (pendings line_of l.blocks.items) ≡ onto (map read_of l.fn.reads.items) []

abbrev pub decreases-loop-read : goal.decreases-loop-read
decreases-loop-read l = length l.left.items

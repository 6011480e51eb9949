use Rattle.std.proofs.Common.{◌≡◌, length}
use Rattle.lexer.specs.Layout.{back_to}
use Rattle.lexer.proofs.layout.back_to.Given as goal

-- the blocks that were left were deeper
abbrev pub invariant-loop-innermost : goal.invariant-loop-innermost
invariant-loop-innermost l = back_to l.column l.columns ≡ back_to l.column l.initial.columns

abbrev pub decreases-loop-innermost : goal.decreases-loop-innermost
decreases-loop-innermost l = length l.columns

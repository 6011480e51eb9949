use Rattle.std.proofs.Common.{◌≡◌, length}
use Rattle.statements.specs.Outlines.{down_to}
use Rattle.statements.proofs.outline.down_to.Given as goal

-- the blocks that were left were deeper
abbrev pub invariant-loop-innermost : goal.invariant-loop-innermost
invariant-loop-innermost l = down_to l.column l.blocks ≡ down_to l.column l.initial.blocks

abbrev pub decreases-loop-innermost : goal.decreases-loop-innermost
decreases-loop-innermost l = length l.blocks

use Rattle.std.proofs.Common.{◌≡◌, [], ◌∷◌, drop}
use Rattle.statements.specs.Outlines.{top_level, pass}
use Rattle.statements.proofs.outline.lines_stand.Given as goal

-- what is left goes on as the whole does
abbrev pub invariant-loop-place : goal.invariant-loop-place
invariant-loop-place l = pass (drop l.place l.lines) l.blocks ≡ pass l.lines (top_level l.fn.top ∷ [])

use Rattle.std.proofs.Common.{take}
use Rattle.analysis.specs.Made.{AreMade}
use Rattle.analysis.proofs.outputs.outputs.Given as goal

abbrev pub invariant-loop-action : goal.invariant-loop-action
invariant-loop-action l = AreMade (take l.action-index l.actions) l.made

use Rattle.std.proofs.Common.{◌≡◌, ◌++◌, drop}
use Rattle.program_tree.specs.ProgramView.{steps}
use Rattle.evaluation.specs.Workspaces.{loads_in}
use Rattle.sources.proofs.loads.loads_in.Given as goal

-- the loads so far, and those of the other steps
abbrev pub invariant-loop-step : goal.invariant-loop-step
invariant-loop-step l = l.loads ++ loads_in l.path (steps (drop l.step-index l.steps)) ≡ loads_in l.path (steps l.steps)

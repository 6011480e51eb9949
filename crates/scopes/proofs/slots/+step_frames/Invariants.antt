use Rattle.std.proofs.Common.{◌≡◌, drop, max}
use Rattle.program_tree.specs.ProgramView.{branches, steps}
use Rattle.program_tree.specs.Resolved as resolved
use Rattle.scopes.proofs.slots.+step_frames.Given as goal

-- the greatest so far and what is left give what all give
abbrev pub invariant-branches_slots-loop-branch : goal.invariant-branches_slots-loop-branch
invariant-branches_slots-loop-branch l = max l.most (resolved.branches_slots (branches (drop l.branch-index l.branches))) ≡ resolved.branches_slots (branches l.branches)

abbrev pub invariant-steps_slots-loop-step : goal.invariant-steps_slots-loop-step
invariant-steps_slots-loop-step l = max l.most (resolved.steps_slots (steps (drop l.step-index l.steps))) ≡ resolved.steps_slots (steps l.steps)

use Rattle.std.proofs.Common.{◌≡◌, ◌≤◌, ◌+◌, drop, map, take}
use Rattle.program_tree.specs.ProgramView.{line_and_statement, steps, steps_onto}
use Rattle.program_tree.specs.Resolved.{numbered}
use Rattle.syntax.proofs.steps.number_functions.Given as goal

-- the steps before this one have their numbers; with those behind them, numbered from here on, all have
abbrev pub invariant-loop-step : goal.invariant-loop-step
invariant-loop-step l =
    (l.number ≤ l.step-index + 1)
    × (steps_onto (map line_and_statement (take l.step-index l.step-items)) (numbered l.number (steps (drop l.step-index l.step-items))) ≡ numbered 1 (steps l.fn.steps.items))

use Rattle.std.proofs.Common.{◌≡◌, ◌++◌, drop, map}
use Rattle.meaning.specs.Functions.{functions_of}
use Rattle.meaning.specs.StatementCode.{file_code, function_code}
use Rattle.program_tree.specs.ParsedView.{program_of}
use Rattle.program_tree.specs.ProgramView.{steps}
use Rattle.code.proofs.compiling.functions.Given as goal

-- the codes so far, and those of the functions that the other steps define
abbrev pub invariant-loop-step : goal.invariant-loop-step
invariant-loop-step l =
    l.all.items ++ map function_code (functions_of l.parsed.globals.keys (steps (drop l.step-index l.steps))) ≡ file_code (program_of l.parsed)

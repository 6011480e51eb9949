use Rattle.std.proofs.Common.{◌≡◌, ◌++◌, take, flat_map, string_bytes}
use Rattle.reporting.specs.Answers.{file_line}
use Rattle.reporting.proofs.made.put_faults.Given as goal

abbrev pub invariant-loop-fault : goal.invariant-loop-fault
invariant-loop-fault l = string_bytes l.out ≡ string_bytes l.fn.out ++ flat_map file_line (take l.fault-index l.faults)

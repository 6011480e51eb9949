use Rattle.std.proofs.Common.{◌≡◌, ◌++◌, take, flat_map, string_bytes}
use Rattle.reporting.specs.Lines.{conflict_line}
use Rattle.reporting.proofs.made.put_conflicts.Given as goal

abbrev pub invariant-loop-conflict : goal.invariant-loop-conflict
invariant-loop-conflict l = string_bytes l.out ≡ string_bytes l.fn.out ++ flat_map conflict_line (take l.conflict-index l.conflicts)

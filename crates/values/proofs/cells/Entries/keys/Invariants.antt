use Rattle.std.proofs.Common.{◌≡◌, take}
use Rattle.values.specs.Visits.{keys_of}
use Rattle.values.proofs.cells.Entries.keys.Given as goal

abbrev pub invariant-loop-i : goal.invariant-loop-i
invariant-loop-i l = l.keys.keys ≡ take l.i (keys_of l.entries)

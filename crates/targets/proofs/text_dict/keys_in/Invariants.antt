use Rattle.std.proofs.Common.{◌≡◌, take}
use Rattle.values.specs.Seeing.{table_entries}
use Rattle.values.specs.Visits.{keys_of}
use Rattle.targets.proofs.text_dict.keys_in.Given as goal

abbrev pub invariant-loop-place : goal.invariant-loop-place
invariant-loop-place l = l.keys.keys ≡ take l.place (keys_of (table_entries l.table))

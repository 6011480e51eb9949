use Rattle.std.proofs.Common.{◌≡◌, ◌++◌, drop}
use Rattle.values.specs.Visits.{values_of}
use Rattle.values.specs.Seeing.{table_entries}
use Rattle.calls.proofs.dicts.value_items.Given as goal

abbrev pub invariant-loop-place : goal.invariant-loop-place
invariant-loop-place l = l.items ++ drop l.place (values_of (table_entries l.fn.entries)) ≡ values_of (table_entries l.fn.entries)

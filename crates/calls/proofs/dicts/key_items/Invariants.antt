use Rattle.std.proofs.Common.{◌≡◌, ◌++◌, drop}
use Rattle.values.specs.Visits.{keys_as_values}
use Rattle.values.specs.Seeing.{table_entries}
use Rattle.calls.proofs.dicts.key_items.Given as goal

abbrev pub invariant-loop-place : goal.invariant-loop-place
invariant-loop-place l = l.items ++ drop l.place (keys_as_values (table_entries l.fn.entries)) ≡ keys_as_values (table_entries l.fn.entries)

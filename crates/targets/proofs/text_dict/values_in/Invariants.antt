use Rattle.std.proofs.Common.{◌≡◌}
use Rattle.values.specs.Seeing.{table_entries}
use Rattle.targets.specs.RuleCalls.{each_of}
use Rattle.targets.specs.TextDicts.{value_frozen}
use Rattle.targets.proofs.Reading.{behind}
use Rattle.targets.proofs.text_dict.values_in.Given as goal

abbrev pub invariant-loop-key : goal.invariant-loop-key
invariant-loop-key l =
    behind l.values.items (each_of (value_frozen l.heap) l.key-iterator) ≡ each_of (value_frozen l.heap) (table_entries l.fn.table)

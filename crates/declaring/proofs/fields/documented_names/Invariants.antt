use Rattle.std.proofs.Common.{◌≡◌}
use Rattle.values.specs.Seeing.{table_entries}
use Rattle.targets.specs.RuleCalls.{each_of}
use Rattle.declaring.specs.ProviderCalls.{documented_name}
use Rattle.targets.proofs.Reading.{behind}
use Rattle.declaring.proofs.fields.documented_names.Given as goal

abbrev pub invariant-loop-key : goal.invariant-loop-key
invariant-loop-key l =
    behind l.names (each_of (documented_name l.heap) l.key-iterator)
    ≡ each_of (documented_name l.heap) (table_entries l.fn.entries)

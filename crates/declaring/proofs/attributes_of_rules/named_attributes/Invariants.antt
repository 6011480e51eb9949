use Rattle.std.proofs.Common.{◌≡◌}
use Rattle.values.specs.Seeing.{table_entries}
use Rattle.targets.specs.RuleCalls.{each_of}
use Rattle.declaring.specs.RuleMaking.{attribute_entry}
use Rattle.targets.proofs.Reading.{behind}
use Rattle.declaring.proofs.attributes_of_rules.named_attributes.Given as goal

abbrev pub invariant-loop-key : goal.invariant-loop-key
invariant-loop-key g l =
    behind l.named (each_of (attribute_entry (g.A.Attributes.declared l.known.linked.now) l.known.state.now l.known.declared.now) l.key-iterator)
    ≡ each_of (attribute_entry (g.A.Attributes.declared l.known.linked.now) l.known.state.now l.known.declared.now) (table_entries l.fn.entries)

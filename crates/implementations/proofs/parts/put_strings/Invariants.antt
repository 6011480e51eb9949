use Rattle.std.proofs.Common.{◌≡◌}
use Rattle.values.specs.Seeing.{group_items}
use Rattle.contexts.specs.Actions.{with_strings}
use Rattle.implementations.proofs.parts.put_strings.Given as goal

abbrev pub invariant-loop-item : goal.invariant-loop-item
invariant-loop-item l =
    with_strings l.heap l.item-iterator l.words ≡ with_strings l.heap (group_items l.fn.items) l.fn.words

use Rattle.std.proofs.Common.{◌≡◌}
use Rattle.values.specs.Seeing.{group_items, item_value}
use Rattle.ticks.specs.declared.ticks.TheConstants.{VISITED_LEVELS}
use Rattle.visits.specs.Equal.{equal_at}
use Rattle.operations.specs.Equality.{among}
use Rattle.state.proofs.comparing.is_among.Given as goal

abbrev pub invariant-loop-item : goal.invariant-loop-item
invariant-loop-item l =
    among (equal_at VISITED_LEVELS l.heap) (item_value l.x) l.item-iterator l.ticks
    ≡ among (equal_at VISITED_LEVELS l.heap) (item_value l.x) (group_items l.fn.items) l.initial.ticks

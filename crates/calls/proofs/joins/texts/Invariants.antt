use Rattle.std.proofs.Common.{◌≡◌, [], map}
use Rattle.values.specs.Shape.{shape}
use Rattle.values.specs.Seeing.{group_items}
use Rattle.operations.specs.Depsets.{put_last, gathered}
use Rattle.operations.specs.Reading.{string_in}
use Rattle.calls.proofs.joins.texts.Given as goal

abbrev pub invariant-loop-item : goal.invariant-loop-item
invariant-loop-item l =
    gathered (λ v xs. put_last xs (string_in (shape l.heap v))) l.item-iterator (map (λ t. t.now) l.texts.items)
    ≡ gathered (λ v xs. put_last xs (string_in (shape l.heap v))) (group_items l.fn.items) []

use Rattle.std.proofs.Common.{◌≡◌, []}
use Rattle.values.specs.Shape.{shape}
use Rattle.values.specs.Seeing.{group_items}
use Rattle.operations.specs.Depsets.{put_last, gathered}
use Rattle.contexts.specs.Actions.{file_in}
use Rattle.implementations.proofs.parts.files.Given as goal

abbrev pub invariant-loop-item : goal.invariant-loop-item
invariant-loop-item l =
    gathered (λ v xs. put_last xs (file_in (shape l.heap v))) l.item-iterator l.files
    ≡ gathered (λ v xs. put_last xs (file_in (shape l.heap v))) (group_items l.fn.items) []

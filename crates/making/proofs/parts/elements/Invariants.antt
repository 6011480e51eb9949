use Rattle.std.proofs.Common.{◌≡◌, []}
use Rattle.values.specs.Shape.{shape}
use Rattle.values.specs.Seeing.{group_items}
use Rattle.operations.specs.Depsets.{element_in, put_last, gathered}
use Rattle.making.proofs.parts.elements.Given as goal

abbrev pub invariant-loop-item : goal.invariant-loop-item
invariant-loop-item l =
    gathered (λ v xs. put_last xs (element_in (shape l.heap v))) l.item-iterator l.elements.items
    ≡ gathered (λ v xs. put_last xs (element_in (shape l.heap v))) (group_items l.fn.items) []

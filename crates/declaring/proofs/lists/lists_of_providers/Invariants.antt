use Rattle.std.proofs.Common.{◌≡◌}
use Rattle.values.specs.Seeing.{group_items}
use Rattle.values.specs.Shape.{shape}
use Rattle.std.specs.Prelude.{option_and_then}
use Rattle.operations.specs.Reading.{sequence_in}
use Rattle.targets.specs.RuleCalls.{each_of}
use Rattle.declaring.specs.AttributeCalls.{all_providers}
use Rattle.targets.proofs.Reading.{behind}
use Rattle.declaring.proofs.lists.lists_of_providers.Given as goal

abbrev pub invariant-loop-item : goal.invariant-loop-item
invariant-loop-item l =
    behind l.lists (each_of (λ v. option_and_then (all_providers l.heap) (sequence_in (shape l.heap v))) l.item-iterator) ≡ each_of (λ v. option_and_then (all_providers l.heap) (sequence_in (shape l.heap v))) (group_items l.fn.items)

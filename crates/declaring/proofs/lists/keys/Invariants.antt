use Rattle.std.proofs.Common.{◌≡◌}
use Rattle.values.specs.Seeing.{group_items}
use Rattle.values.specs.Shape.{shape}
use Rattle.targets.specs.RuleCalls.{each_of}
use Rattle.declaring.specs.AttributeCalls.{key_of_kind}
use Rattle.targets.proofs.Reading.{behind}
use Rattle.declaring.proofs.lists.keys.Given as goal

abbrev pub invariant-loop-item : goal.invariant-loop-item
invariant-loop-item l =
    behind l.keys (each_of (λ v. key_of_kind l.kind (shape l.heap v)) l.item-iterator) ≡ each_of (λ v. key_of_kind l.kind (shape l.heap v)) (group_items l.fn.items)

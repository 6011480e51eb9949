use Rattle.std.proofs.Common.{◌≡◌}
use Rattle.values.specs.Seeing.{group_items}
use Rattle.values.specs.Shape.{shape}
use Rattle.targets.specs.RuleCalls.{each_of}
use Rattle.declaring.specs.AttributeCalls.{provider_in}
use Rattle.targets.proofs.Reading.{behind}
use Rattle.declaring.proofs.lists.providers.Given as goal

abbrev pub invariant-loop-item : goal.invariant-loop-item
invariant-loop-item l =
    behind l.providers (each_of (λ v. provider_in (shape l.heap v)) l.item-iterator) ≡ each_of (λ v. provider_in (shape l.heap v)) (group_items l.fn.items)

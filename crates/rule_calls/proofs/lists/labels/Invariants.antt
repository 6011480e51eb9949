use Rattle.std.proofs.Common.{◌≡◌, []}
use Rattle.values.specs.Seeing.{group_items}
use Rattle.values.specs.Shape.{shape}
use Rattle.targets.specs.RuleCalls.{label_in}
use Rattle.rule_calls.specs.Each.{added}
use Rattle.rule_calls.proofs.lists.labels.Given as goal

abbrev pub invariant-loop-item : goal.invariant-loop-item
invariant-loop-item l =
    added (λ v. label_in l.heap l.«package» (shape l.heap v)) l.labels l.item-iterator
    ≡ added (λ v. label_in l.heap l.«package» (shape l.heap v)) [] (group_items l.fn.items)

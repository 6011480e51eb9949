use Rattle.std.proofs.Common.{◌≡◌}
use Rattle.values.specs.Seeing.{group_items}
use Rattle.targets.specs.RuleCalls.{each_of}
use Rattle.targets.specs.TextLists.{text_frozen}
use Rattle.targets.proofs.Reading.{behind}
use Rattle.targets.proofs.text_list.trees_in.Given as goal

abbrev pub invariant-loop-item : goal.invariant-loop-item
invariant-loop-item l =
    behind l.trees.items (each_of (text_frozen l.heap) l.item-iterator) ≡ each_of (text_frozen l.heap) (group_items l.fn.items)

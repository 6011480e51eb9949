use Rattle.std.proofs.Common.{◌∙◌, sym}
use Rattle.depsets.proofs.Turns.{drop_at}
use Rattle.values.specs.Seeing.{group_items, item_value}
use Rattle.values.proofs.iter.GroupIterIterator.next.Goals as goal

pub returns-clause-steps : goal.returns-clause-steps
returns-clause-steps c =
    sym c.self.view_is ∙ drop_at (group_items c.self.inside.items) c.self.inside.next (item_value c.item-item.result) c.item-item.ensures

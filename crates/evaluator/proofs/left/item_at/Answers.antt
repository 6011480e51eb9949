use Rattle.std.proofs.Common.{arith}
use Rattle.values.specs.Seeing.{item_value, group_items}
use Rattle.depsets.proofs.Turns.{drop_at}
use Rattle.evaluator.proofs.left.item_at.Goals as goal

pub returns-then-place-len : goal.returns-then-place-len
returns-then-place-len c =
    (drop_at (group_items c.args.items) c.args.place (item_value c.item.result) c.item.ensures, omega arith)

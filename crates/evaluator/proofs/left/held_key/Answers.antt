use Rattle.std.proofs.Common.{arith}
use Rattle.values.specs.Walks.{keys_as_values}
use Rattle.depsets.proofs.Turns.{drop_at}
use Rattle.evaluator.proofs.left.held_key.Goals as goal

pub returns-in_ok-key_at : goal.returns-in_ok-key_at
returns-in_ok-key_at c =
    (drop_at (keys_as_values c.args.entries.now) c.args.place c.in_ok-key_at.field-0 c.in_ok-key_at.ensures, omega arith)

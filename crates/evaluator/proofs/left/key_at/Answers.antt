use Rattle.std.proofs.Common.{arith}
use Rattle.values.specs.Seeing.{item_value, table_entries}
use Rattle.evaluator.proofs.Walks.{key_left}
use Rattle.evaluator.proofs.left.key_at.Goals as goal

pub returns-in-Some : goal.returns-in-Some
returns-in-Some c = (
  key_left (table_entries c.args.entries) c.args.place c.in-Some.key.now (item_value c.in-Some.field-0-1) c.in-Some.ensures,
  omega arith,
)

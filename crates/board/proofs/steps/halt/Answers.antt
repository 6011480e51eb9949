use Rattle.std.proofs.Common.{arith}
use Rattle.board.proofs.RuleSteps.{allows_halt}
use Rattle.board.proofs.steps.halt.Goals as goal

pub store-requires : goal.store-requires
store-requires c = (
  c.requires.place.0,
  omega arith,
  rw c.requires.count.0 (allows_halt c.args.words.now.key.plan c.args.words.now.key.passes c.args.words.now.table_id.slots c.args.seat.now.id c.args.seat.now.me c.requires.place.1),
)

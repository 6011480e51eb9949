use Rattle.std.proofs.Common.{arith}
use Rattle.board.proofs.RuleSteps.{allows_halted}
use Rattle.board.proofs.steps.halted.Goals as goal

pub load-requires : goal.load-requires
load-requires c = (
  c.requires.place.0,
  omega arith,
  rw c.requires.count.0 (allows_halted c.args.words.now.key.plan c.args.words.now.key.passes c.args.words.now.table_id.slots c.args.seat.now.id c.args.seat.now.me c.requires.place.1),
)

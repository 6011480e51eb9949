use Rattle.std.proofs.Common.{arith}
use Rattle.board.proofs.RuleSteps.{allows_look}
use Rattle.board.proofs.steps.look.Goals as goal

pub load-requires : goal.load-requires
load-requires c = (
  c.requires.place.0,
  omega arith,
  allows_look c.args.words.now.key.plan c.args.words.now.key.passes c.args.words.now.table_id.slots c.args.seat.now.id c.args.seat.now.me c.requires.place.1 c.args.n c.requires.node,
)

use Rattle.std.proofs.Common.{arith}
use Rattle.board.proofs.RuleSteps.{allows_start}
use Rattle.board.proofs.steps.start.Goals as goal

pub compare_exchange-found-requires : goal.compare_exchange-found-requires
compare_exchange-found-requires c = (
  c.requires.place.0,
  omega arith,
  allows_start c.args.words.now.key.plan c.args.words.now.key.passes c.args.words.now.table_id.slots c.args.seat.now.id c.args.seat.now.me c.requires.place.1 c.args.n c.requires.node,
)

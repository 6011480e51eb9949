use Rattle.std.proofs.Common.{rules}
use Rattle.board.proofs.RuleSteps.{allows_compare}
use Rattle.board.proofs.steps.meet.Goals as goal

pub load-requires : goal.load-requires
load-requires c = (
  search rules,
  c.requires.size,
  allows_compare c.args.words.now.key.plan c.args.words.now.key.passes c.args.words.now.table_id.slots c.gather.new.seat.id c.gather.new.seat.me,
)

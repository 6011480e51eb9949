use Rattle.board.proofs.RuleSteps.{allows_join}
use Rattle.board.proofs.seats.gather.Goals as goal

pub join_seat-requires : goal.join_seat-requires
join_seat-requires c = (
  c.requires.place.0,
  c.requires.other.0,
  c.requires.other.1,
  c.requires.place.1,
  allows_join c.args.words.now.key.plan c.args.words.now.key.passes c.args.seat.now.id c.args.other.id c.args.seat.now.me.0 c.args.other.me.0,
)

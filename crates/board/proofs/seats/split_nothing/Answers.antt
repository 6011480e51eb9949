use Rattle.board.proofs.RuleSteps.{allows_empty_split}
use Rattle.board.proofs.seats.split_nothing.Goals as goal

pub split_seat-requires : goal.split_seat-requires
split_seat-requires c = (c.requires.place.0, c.requires.place.1, allows_empty_split c.args.words.now.key.plan c.args.words.now.key.passes c.args.seat.now.id c.args.seat.now.me.0)

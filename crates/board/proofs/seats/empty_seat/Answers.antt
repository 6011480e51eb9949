use Rattle.board.proofs.RuleSteps.{allows_enter}
use Rattle.board.proofs.seats.empty_seat.Goals as goal

pub load_new_seat-seat-requires : goal.load_new_seat-seat-requires
load_new_seat-seat-requires c = (c.requires, allows_enter c.args.words.now.key.plan c.args.words.now.key.passes c.args.words.now.table_id.slots 0)

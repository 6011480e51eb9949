use Rattle.std.specs.Mem.Slots.{slots_items}
use Rattle.board.proofs.JournalLists.{index_at}
use Rattle.board.proofs.RuleSteps.{state_at_end}
use Rattle.board.proofs.table.close_table.Goals as goal

pub returns : goal.returns
returns c =
    let closed = c.close_with-closed.result in let v = c.close_with-closed.ensures.values in (
      slots_items closed.words,
      state_at_end c.args.table.shared.key.plan c.args.table.shared.key.passes c.args.seat.id c.args.seat.me.0 (slots_items closed.words) (slots_items closed.slots) c.requires.all v.2,
      index_at (slots_items closed.words) c.args.nodes c.word-left.result c.word-left.ensures,
      index_at (slots_items closed.words) _ c.word-halt.result c.word-halt.ensures,
    )

use Rattle.std.proofs.Common.{arith}
use Rattle.board.proofs.RuleSteps.{allows_finish}
use Rattle.board.proofs.steps.finish_branded.Goals as goal

pub fetch_sub-requires : goal.fetch_sub-requires
fetch_sub-requires g c = (
  c.requires.place.0,
  omega arith,
  rw c.requires.count.0 (allows_finish c.args.words.now.key.plan c.args.words.now.key.passes c.args.words.now.table_id.slots c.args.seat.now.id c.args.seat.now.me c.requires.place.1 g.N.NodeBrand.node
      c.requires.start c.requires.once c.requires.whole),
)

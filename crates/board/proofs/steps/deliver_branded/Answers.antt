use Rattle.std.proofs.Common.{arith}
use Rattle.board.proofs.Counts.{deps_inside}
use Rattle.board.proofs.RuleSteps.{allows_deliver}
use Rattle.board.proofs.steps.deliver_branded.Goals as goal

pub fetch_sub-requires : goal.fetch_sub-requires
fetch_sub-requires g c = let i = deps_inside c.args.words.now.key.plan c.args.user g.N.NodeBrand.node c.requires.edge in (
  c.requires.place.0,
  omega arith,
  allows_deliver c.args.words.now.key.plan c.args.words.now.key.passes c.args.words.now.table_id.slots c.args.seat.now.id c.args.seat.now.me c.requires.place.1 g.N.NodeBrand.node c.args.user
      c.requires.start c.requires.first c.requires.edge,
)

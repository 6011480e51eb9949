use Rattle.std.proofs.Common.{ap}
use Rattle.once_cell.specs.Once.{cell_name}
use Rattle.board.specs.Views.{BoardView, PassView}
use Rattle.board.proofs.Backed.{node_known}
use Rattle.board.proofs.board.Board.read.Goals as goal

pub has-requires : goal.has-requires
has-requires g c =
    node_known cell_name c.self.inside.cells.items c.self.inside.table.shared.key.plan c.args.self.now c.args.pass.now c.pass.inside.memory c.args.n (ap (λ (b : BoardView). b.cells) c.self.view_is)
    (ap (λ (b : BoardView). b.plan) c.self.view_is) c.self.invariant.0 (ap (λ (p : PassView g.row.V.Denot). p.memory.cells) c.pass.view_is) c.requires.pass c.requires.node c.pass.invariant.2

use Rattle.std.proofs.lemmas.List.Elements.{All-pop}
use Rattle.board.specs.Views.{IsPassOf}
use Rattle.board.proofs.board.Board.take_pass.Goals as goal

pub returns-clause-of : goal.returns-clause-of
returns-clause-of g c = (All-pop (IsPassOf c.args.self.now) c.args.passes.now.items c.pop.new.self.items c.pop.result c.pop.ensures.items c.requires).1

pub returns-clause-rest : goal.returns-clause-rest
returns-clause-rest g c = (All-pop (IsPassOf c.args.self.now) c.args.passes.now.items c.pop.new.self.items c.pop.result c.pop.ensures.items c.requires).0

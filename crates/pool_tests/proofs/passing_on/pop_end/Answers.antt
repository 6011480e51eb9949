use Rattle.std.proofs.Common.{◌≡◌}
use Rattle.std.proofs.lemmas.List.Elements.{All-pop}
use Rattle.pool_tests.proofs.passing_on.pop_end.Goals as goal

pub returns-clause-rest : goal.returns-clause-rest
returns-clause-rest g c = (All-pop (λ e. g.S.Shelf.nodes e ≡ c.args.nodes) c.args.ends.now.items c.pop.new.self.items c.pop.result c.pop.ensures.items c.requires).0

pub returns-clause-some : goal.returns-clause-some
returns-clause-some g c = (All-pop (λ e. g.S.Shelf.nodes e ≡ c.args.nodes) c.args.ends.now.items c.pop.new.self.items c.pop.result c.pop.ensures.items c.requires).1

use Rattle.std.proofs.Common.{ap, ◌∙◌}
use Rattle.depsets.specs.Keys.{has}
use Rattle.depsets.proofs.Lent.{has-map}
use Rattle.depsets.proofs.distinct.Distinct.contains.Goals as goal

pub returns : goal.returns
returns g c =
    c.contains.ensures
    ∙ has-map (λ r. r.now) g.T.PartialEq.eq c.args.item.now c.self.inside.items.keys
    ∙ ap (λ ks. has g.T.PartialEq.eq ks c.args.item.now) c.self.view_is

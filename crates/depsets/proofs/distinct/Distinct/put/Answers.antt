use Rattle.std.proofs.Common.{ap, ◌∙◌, map}
use Rattle.depsets.specs.Keys.{keep}
use Rattle.depsets.proofs.Lent.{keep-map}
use Rattle.depsets.proofs.distinct.Distinct.put.Goals as goal

pub returns : goal.returns
returns g c =
    ap (λ ks. map (λ r. r.now) ks) c.in_ok-insert.ensures.keys
    ∙ keep-map (λ r. r.now) g.T.PartialEq.eq c.args.item c.self.inside.items.keys
    ∙ ap (λ ks. keep g.T.PartialEq.eq ks c.args.item.now) c.self.view_is

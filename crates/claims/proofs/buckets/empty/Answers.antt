use Rattle.std.proofs.lemmas.List.{take_all}
use Rattle.std.proofs.Common.{◌∙◌, ap, map}
use Rattle.claims.specs.Buckets.{no_members}
use Rattle.claims.proofs.Turns.{map-next}
use Rattle.claims.proofs.buckets.empty.Goals as goal

pub loop-one-preserved : goal.loop-one-preserved
loop-one-preserved c =
    map-next no_members c.args.owned.now c.loop-one._one-index c._one-item.result c.new.result c.loop-one.buckets.items c.push.new.self.items c.loop-one-test.true
    c._one-item.is c.loop-one.invariant c.in_ok-push.ensures.items c.new.ensures

pub returns : goal.returns
returns c = c.loop-one.invariant ∙ ap (map no_members) (take_all c.loop-one._one-index c.args.owned.now c.loop-one-test.false)

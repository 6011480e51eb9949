use Rattle.std.proofs.lemmas.List.{take_all}
use Rattle.std.proofs.Common.{refl, ◌∙◌, ap, map}
use Rattle.claims.specs.Tellings.{alone}
use Rattle.claims.specs.declared.telling.Telling.TheVariants.{Alone}
use Rattle.claims.proofs.Turns.{map-next}
use Rattle.claims.proofs.telling.all_alone.Goals as goal

pub loop-one-preserved : goal.loop-one-preserved
loop-one-preserved c =
    map-next alone c.args.owned.now c.loop-one._one-index c._one-item.result Alone c.loop-one.tellings.items c.push.new.self.items c.loop-one-test.true c._one-item.is
    c.loop-one.invariant c.in_ok-push.ensures.items refl

pub returns : goal.returns
returns c = c.loop-one.invariant ∙ ap (map alone) (take_all c.loop-one._one-index c.args.owned.now c.loop-one-test.false)

use Rattle.std.proofs.Common.{sym, ap, ◌∙◌, refl}
use Rattle.depsets.specs.Rose.{label}
use Rattle.depsets.specs.Walker.{walk_of}
use Rattle.depsets.specs.Listed.{took}
use Rattle.depsets.proofs.Turns.{took_next, took_end}
use Rattle.depsets.proofs.listing.Walker.take_own.Goals as goal

pub loop-i-preserved : goal.loop-i-preserved
loop-i-preserved c =
    took_next c.direct-direct.result.now c.loop-i.i c.in_ok-element.element.now (label c.args.d.now) (walk_of c.loop-i.self) _ c.in_ok-element.ensures.item refl
    c.in_ok-take.ensures c.in_ok-element.ensures.steps
    ∙ c.loop-i.invariant

pub returns : goal.returns
returns c =
    sym (took_end c.direct-direct.result.now c.loop-i.i (label c.args.d.now) (walk_of c.loop-i.self) c.loop-i-test.false) ∙ c.loop-i.invariant
    ∙ ap (λ l. took l (label c.args.d.now) (walk_of c.args.self.now)) c.direct-direct.ensures

use Rattle.std.proofs.Common.{◌≡◌, ◌∙◌, sym, ap, ◌+◌, ◌-◌, suc, arith}
use Rattle.frames.specs.Popped.{popped}
use Rattle.frames.proofs.Popping.{popped-falls}
use Rattle.frames.proofs.taking.take.Goals as goal

pub loop-preserved : goal.loop-preserved
loop-preserved c =
    let n = c.args.count - c.loop.counter in
    let k = c.args.count - (c.loop.counter + 1) in
    let e : n ≡ suc k = omega (arith, c.loop-test.true) in
    c.loop.invariant ∙ (ap (popped n c.loop.taken) c.in-Some.ensures
    ∙ (popped-falls n k c.loop.taken c.in-Some.value c.pop.new.self e
    ∙ ap (λ t. popped k t c.pop.new.self) (sym c.in_ok-push-in-Some.ensures)))

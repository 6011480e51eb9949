use Rattle.std.proofs.Common.{refl, arith}
use Rattle.code.proofs.Forwards.{one_on}
use Rattle.code.proofs.compiling.shared.Goals as goal

pub loop-name-preserved : goal.loop-name-preserved
loop-name-preserved c =
    one_on (λ xs. xs) (λ x. x) (λ _ _. refl) c.args.names.now c.loop-name.name-index c.name-item.result c.name-item.result
    c.loop-name.all.items c.push.new.self.items c.args.names.now c.in_ok-share.field-0 (omega (arith, c.loop-name-test.true)) c.name-item.is
    c.loop-name.invariant c.in_ok-push.ensures.items c.in_ok-share.ensures

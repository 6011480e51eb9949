use Rattle.std.proofs.Common.{◌∙◌, ap, ◌+◌, ◌-◌, ◌++◌, None}
use Rattle.std.specs.Prelude.{replicate}
use Rattle.call_stack.proofs.Parameters.{pad_on}
use Rattle.call_stack.proofs.filling.pad.Goals as goal

pub loop-preserved : goal.loop-preserved
loop-preserved c =
    ap (λ l. l ++ replicate (c.args.count - (c.loop.counter + 1)) None) c.in_ok-push.ensures
    ∙ (pad_on c.loop.slots c.args.count c.loop.counter c.loop-test.true ∙ c.loop.invariant)

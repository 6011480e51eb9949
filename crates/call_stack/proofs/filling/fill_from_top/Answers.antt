use Rattle.std.proofs.Common.{◌∙◌, ◌-◌, ◌++◌, ap, None, arith}
use Rattle.std.specs.Prelude.{replicate}
use Rattle.call_stack.proofs.Positions.{placing_begins, placing_ends, place_more}
use Rattle.call_stack.proofs.filling.fill_from_top.Goals as goal

pub loop-left-init : goal.loop-left-init
loop-left-init c =
    placing_begins c.args.count c.pad.new.slots c.args.values.now (c.in_ok-pad.ensures ∙ ap (λ l. l ++ replicate c.args.count None) c.requires.none) c.requires.there

pub loop-left-preserved : goal.loop-left-preserved
loop-left-preserved c =
    place_more (c.loop-left.left - 1) c.loop-left.left c.args.count c.loop-left.slots c.put.new.self c.loop-left.values c.pop.new.self c.args.values.now c.pop.result
    (omega (arith, c.loop-left-test.true)) c.loop-left.invariant c.pop.ensures c.in_ok-put.ensures

pub returns : goal.returns
returns c =
    let p = placing_ends c.loop-left.left c.args.count c.loop-left.slots c.loop-left.values c.args.values.now (omega (arith, c.loop-left-test.false)) c.loop-left.invariant in
    record { filled = p.0; left = p.1 }

use Rattle.std.proofs.Common.{◌∙◌, sym, subst}
use Rattle.depsets.proofs.Turns.{drop_at}
use Rattle.ticks.specs.Ticking.{FaultOr}
use Rattle.targets.proofs.Placing.{default_is}
use Rattle.targets.specs.RuleCalls.{value_for}
use Rattle.rule_calls.proofs.Adding.{added-then, added-fault}
use Rattle.rule_calls.proofs.reading.values_for.Goals as goal

pub put_value-requires : goal.put_value-requires
put_value-requires c = default_is c.args.attributes.now c.loop-place.place c.at-attribute.result.now c.default_at-default.result.now c.at-attribute.ensures c.default_at-default.ensures

pub returns-in-Err : goal.returns-in-Err
returns-in-Err c =
    let f = value_for c.args.heap.now c.args.«package».now c.args.arguments.now in
    subst (λ r. FaultOr r c.in-Err.broken) c.loop-place.invariant
    (added-fault f (drop_at c.args.attributes.now c.loop-place.place c.at-attribute.result.now c.at-attribute.ensures) c.loop-place.values c.in-Err.broken c.in-Err.ensures)

pub loop-place-preserved : goal.loop-place-preserved
loop-place-preserved c =
    let f = value_for c.args.heap.now c.args.«package».now c.args.arguments.now in
    sym (added-then f (drop_at c.args.attributes.now c.loop-place.place c.at-attribute.result.now c.at-attribute.ensures) c.loop-place.values c.put_value.new.values c.in_default.ensures)
    ∙ c.loop-place.invariant

use Rattle.std.proofs.Common.{true, false, Ok, Err, sym, ap, ◌∙◌}
use Rattle.visits.specs.Equal.{equal_at}
use Rattle.values.specs.Seeing.{item_value}
use Rattle.ticks.specs.declared.ticks.TheConstants.{VISITED_LEVELS}
use Rattle.state.proofs.Turns.{among-then}
use Rattle.state.proofs.comparing.is_among.Goals as goal

pub returns-in-Err : goal.returns-in-Err
returns-in-Err c =
    let eq = equal_at VISITED_LEVELS c.args.heap.now in
    sym c.loop-item.invariant
    ∙ among-then eq (item_value c.args.x) c.in-Some.ensures.steps c.loop-item.ticks (Err c.in-Err.kind) c.in-Err.ensures

pub returns-in-Ok-true : goal.returns-in-Ok-true
returns-in-Ok-true c =
    let eq = equal_at VISITED_LEVELS c.args.heap.now in
    sym c.loop-item.invariant
    ∙ among-then eq (item_value c.args.x) c.in-Some.ensures.steps c.loop-item.ticks (Ok (true, c.equal.new.ticks))
    (c.in-Ok-true.ensures ∙ ap (λ b. Ok (b, c.equal.new.ticks)) c.in-Ok-true.field-0-test)

pub loop-item-preserved : goal.loop-item-preserved
loop-item-preserved c =
    let eq = equal_at VISITED_LEVELS c.args.heap.now in
    sym (among-then eq (item_value c.args.x) c.in-Some.ensures.steps c.loop-item.ticks (Ok (false, c.equal.new.ticks))
    (c.in-Ok-false.ensures ∙ ap (λ b. Ok (b, c.equal.new.ticks)) c.in-Ok-false.field-0-test))
    ∙ c.loop-item.invariant

use Rattle.std.proofs.Common.{rules, arith}
use Rattle.std.proofs.lemmas.Grind.{common_steps}
use Rattle.grammar.specs.Descent.{read, gather, with_item}
use Rattle.grammar.specs.Descended.{several_seen}
use Rattle.grammar.specs.declared.parts.Row.TheVariants.{Whole}
use Rattle.grammar.proofs.Turns.{one_more}
use Rattle.descent.proofs.expressions.Reader.items.Goals as goal

pub returns-then-close : goal.returns-then-close
unfolding gather
returns-then-close g c =
    let e = one_more (λ n. gather (read c.args.self.now.turns Whole c.args.room) with_item c.args.bracket n (several_seen c.loop-turn.found) c.loop-turn.ahead) _ c.loop-turn._turn c.loop-turn-test.true c.loop-turn.invariant in
    first_of (search rules, grind (arith, common_steps))

pub returns-in_err-item : goal.returns-in_err-item
unfolding gather
returns-in_err-item g c =
    let e = one_more (λ n. gather (read c.args.self.now.turns Whole c.args.room) with_item c.args.bracket n (several_seen c.loop-turn.found) c.loop-turn.ahead) _ c.loop-turn._turn c.loop-turn-test.true c.loop-turn.invariant in
    first_of (search rules, grind (arith, common_steps))

pub returns-then-close-2 : goal.returns-then-close-2
unfolding gather
returns-then-close-2 g c =
    let e = one_more (λ n. gather (read c.args.self.now.turns Whole c.args.room) with_item c.args.bracket n (several_seen c.loop-turn.found) c.loop-turn.ahead) _ c.loop-turn._turn c.loop-turn-test.true c.loop-turn.invariant in
    first_of (search rules, grind (arith, common_steps))

pub returns-then-not-comma : goal.returns-then-not-comma
unfolding gather
returns-then-not-comma g c =
    let e = one_more (λ n. gather (read c.args.self.now.turns Whole c.args.room) with_item c.args.bracket n (several_seen c.loop-turn.found) c.loop-turn.ahead) _ c.loop-turn._turn c.loop-turn-test.true c.loop-turn.invariant in
    first_of (search rules, grind (arith, common_steps))

pub loop-turn-preserved : goal.loop-turn-preserved
unfolding gather
loop-turn-preserved g c =
    let e = one_more (λ n. gather (read c.args.self.now.turns Whole c.args.room) with_item c.args.bracket n (several_seen c.loop-turn.found) c.loop-turn.ahead) _ c.loop-turn._turn c.loop-turn-test.true c.loop-turn.invariant in
    first_of (search rules, grind (arith, common_steps))

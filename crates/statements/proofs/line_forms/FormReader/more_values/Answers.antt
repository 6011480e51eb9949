use Rattle.std.proofs.Common.{rules, arith}
use Rattle.std.proofs.lemmas.Grind.{common_steps}
use Rattle.grammar.specs.FormDescent.{more_values}
use Rattle.grammar.specs.Descended.{several_seen}
use Rattle.grammar.proofs.Turns.{one_more}
use Rattle.statements.proofs.line_forms.FormReader.more_values.Goals as goal

pub returns-in_err-item : goal.returns-in_err-item
unfolding more_values
returns-in_err-item c =
    let e = one_more (λ n. more_values c.args.self.now.turns n (several_seen c.loop-turn.found) c.loop-turn.ahead) _ c.loop-turn._turn c.loop-turn-test.true c.loop-turn.invariant in
    first_of (search rules, grind (arith, common_steps))

pub returns-then-is_done : goal.returns-then-is_done
unfolding more_values
returns-then-is_done c =
    let e = one_more (λ n. more_values c.args.self.now.turns n (several_seen c.loop-turn.found) c.loop-turn.ahead) _ c.loop-turn._turn c.loop-turn-test.true c.loop-turn.invariant in
    first_of (search rules, grind (arith, common_steps))

pub returns-then-not-comma : goal.returns-then-not-comma
unfolding more_values
returns-then-not-comma c =
    let e = one_more (λ n. more_values c.args.self.now.turns n (several_seen c.loop-turn.found) c.loop-turn.ahead) _ c.loop-turn._turn c.loop-turn-test.true c.loop-turn.invariant in
    first_of (search rules, grind (arith, common_steps))

pub loop-turn-preserved : goal.loop-turn-preserved
unfolding more_values
loop-turn-preserved c =
    let e = one_more (λ n. more_values c.args.self.now.turns n (several_seen c.loop-turn.found) c.loop-turn.ahead) _ c.loop-turn._turn c.loop-turn-test.true c.loop-turn.invariant in
    first_of (search rules, grind (arith, common_steps))

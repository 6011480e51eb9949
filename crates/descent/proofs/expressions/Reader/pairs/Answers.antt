use Rattle.std.proofs.Common.{rules, arith}
use Rattle.std.proofs.lemmas.Grind.{common_steps}
use Rattle.grammar.specs.Descent.{read, pair, gather, with_pair}
use Rattle.grammar.specs.Descended.{pairs_seen}
use Rattle.lexer.specs.declared.layout.Bracket.TheVariants.{Curly}
use Rattle.grammar.proofs.Turns.{one_more}
use Rattle.descent.proofs.expressions.Reader.pairs.Goals as goal

pub returns-then-close : goal.returns-then-close
unfolding gather
returns-then-close g c =
    let e = one_more (λ n. gather (pair (read c.args.self.now.turns) c.args.self.now.most c.args.room) with_pair Curly n (pairs_seen c.loop-turn.found) c.loop-turn.ahead) _ c.loop-turn._turn c.loop-turn-test.true c.loop-turn.invariant in
    first_of (search rules, grind (arith, common_steps))

pub returns-in_err-pair : goal.returns-in_err-pair
unfolding gather
returns-in_err-pair g c =
    let e = one_more (λ n. gather (pair (read c.args.self.now.turns) c.args.self.now.most c.args.room) with_pair Curly n (pairs_seen c.loop-turn.found) c.loop-turn.ahead) _ c.loop-turn._turn c.loop-turn-test.true c.loop-turn.invariant in
    first_of (search rules, grind (arith, common_steps))

pub returns-then-close-2 : goal.returns-then-close-2
unfolding gather
returns-then-close-2 g c =
    let e = one_more (λ n. gather (pair (read c.args.self.now.turns) c.args.self.now.most c.args.room) with_pair Curly n (pairs_seen c.loop-turn.found) c.loop-turn.ahead) _ c.loop-turn._turn c.loop-turn-test.true c.loop-turn.invariant in
    first_of (search rules, grind (arith, common_steps))

pub returns-then-not-comma : goal.returns-then-not-comma
unfolding gather
returns-then-not-comma g c =
    let e = one_more (λ n. gather (pair (read c.args.self.now.turns) c.args.self.now.most c.args.room) with_pair Curly n (pairs_seen c.loop-turn.found) c.loop-turn.ahead) _ c.loop-turn._turn c.loop-turn-test.true c.loop-turn.invariant in
    first_of (search rules, grind (arith, common_steps))

pub loop-turn-preserved : goal.loop-turn-preserved
unfolding gather
loop-turn-preserved g c =
    let e = one_more (λ n. gather (pair (read c.args.self.now.turns) c.args.self.now.most c.args.room) with_pair Curly n (pairs_seen c.loop-turn.found) c.loop-turn.ahead) _ c.loop-turn._turn c.loop-turn-test.true c.loop-turn.invariant in
    first_of (search rules, grind (arith, common_steps))

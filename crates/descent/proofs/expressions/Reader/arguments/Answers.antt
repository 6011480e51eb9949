use Rattle.std.proofs.Common.{rules, arith}
use Rattle.std.proofs.lemmas.Grind.{common_steps}
use Rattle.grammar.specs.Descent.{read, argument, gather, with_argument}
use Rattle.grammar.specs.Descended.{arguments_seen}
use Rattle.lexer.specs.declared.layout.Bracket.TheVariants.{Round}
use Rattle.grammar.proofs.Turns.{one_more}
use Rattle.descent.proofs.expressions.Reader.arguments.Goals as goal

pub loop-turn-preserved : goal.loop-turn-preserved
unfolding gather
loop-turn-preserved g c =
    let e = one_more (λ n. gather (argument (read c.args.self.now.turns) c.args.self.now.most c.args.room) with_argument Round n (arguments_seen c.loop-turn.found) c.loop-turn.ahead) _ c.loop-turn._turn c.loop-turn-test.true c.loop-turn.invariant in
    first_of (search rules, grind (arith, common_steps))

pub returns-then-close-2 : goal.returns-then-close-2
unfolding gather
returns-then-close-2 g c =
    let e = one_more (λ n. gather (argument (read c.args.self.now.turns) c.args.self.now.most c.args.room) with_argument Round n (arguments_seen c.loop-turn.found) c.loop-turn.ahead) _ c.loop-turn._turn c.loop-turn-test.true c.loop-turn.invariant in
    first_of (search rules, grind (arith, common_steps))

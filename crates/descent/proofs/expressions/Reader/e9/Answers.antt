use Rattle.std.proofs.Common.{rules, arith}
use Rattle.std.proofs.lemmas.Grind.{common_steps}
use Rattle.grammar.specs.Descent.{read, suffixes}
use Rattle.grammar.specs.Descended.{part_seen}
use Rattle.grammar.proofs.Turns.{one_more}
use Rattle.descent.proofs.expressions.Reader.e9.Goals as goal

pub loop-turn-preserved : goal.loop-turn-preserved
unfolding suffixes
loop-turn-preserved g c =
    let e = one_more (λ n. suffixes (read c.args.self.now.turns) c.args.self.now.most c.args.room n (part_seen c.loop-turn.whole) c.loop-turn.ahead) _ c.loop-turn._turn c.loop-turn-test.true c.loop-turn.invariant in
    first_of (search rules, grind (arith, common_steps))

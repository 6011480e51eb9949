use Rattle.std.proofs.Common.{rules, arith, map}
use Rattle.std.proofs.lemmas.Grind.{common_steps}
use Rattle.grammar.specs.Descent.{gather}
use Rattle.grammar.specs.FormDescent.{item, with_item_of}
use Rattle.grammar.specs.LineView.{item_of}
use Rattle.lexer.specs.declared.layout.Bracket.TheVariants.{Round}
use Rattle.grammar.proofs.Turns.{one_more}
use Rattle.statements.proofs.line_forms.FormReader.items.Goals as goal

pub returns-then-close : goal.returns-then-close
unfolding gather
returns-then-close c =
    let e = one_more (λ n. gather (item c.args.self.now.turns) (with_item_of c.args.self.now.turns) Round n (map item_of c.loop-turn.found.items) c.loop-turn.ahead) _ c.loop-turn._turn c.loop-turn-test.true c.loop-turn.invariant in
    first_of (search rules, grind (arith, common_steps))

pub returns-in_err-item : goal.returns-in_err-item
unfolding gather
returns-in_err-item c =
    let e = one_more (λ n. gather (item c.args.self.now.turns) (with_item_of c.args.self.now.turns) Round n (map item_of c.loop-turn.found.items) c.loop-turn.ahead) _ c.loop-turn._turn c.loop-turn-test.true c.loop-turn.invariant in
    first_of (search rules, grind (arith, common_steps))

pub returns-then-close-2 : goal.returns-then-close-2
unfolding gather
returns-then-close-2 c =
    let e = one_more (λ n. gather (item c.args.self.now.turns) (with_item_of c.args.self.now.turns) Round n (map item_of c.loop-turn.found.items) c.loop-turn.ahead) _ c.loop-turn._turn c.loop-turn-test.true c.loop-turn.invariant in
    first_of (search rules, grind (arith, common_steps))

pub returns-then-not-comma : goal.returns-then-not-comma
unfolding gather
returns-then-not-comma c =
    let e = one_more (λ n. gather (item c.args.self.now.turns) (with_item_of c.args.self.now.turns) Round n (map item_of c.loop-turn.found.items) c.loop-turn.ahead) _ c.loop-turn._turn c.loop-turn-test.true c.loop-turn.invariant in
    first_of (search rules, grind (arith, common_steps))

pub loop-turn-preserved : goal.loop-turn-preserved
unfolding gather
loop-turn-preserved c =
    let e = one_more (λ n. gather (item c.args.self.now.turns) (with_item_of c.args.self.now.turns) Round n (map item_of c.loop-turn.found.items) c.loop-turn.ahead) _ c.loop-turn._turn c.loop-turn-test.true c.loop-turn.invariant in
    first_of (search rules, grind (arith, common_steps))

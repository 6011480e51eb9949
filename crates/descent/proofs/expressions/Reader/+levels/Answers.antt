use Rattle.std.proofs.Common.{◌≡◌, ◌≤◌, ◌<◌, ◌+◌, ◌-◌, sym, ap, ◌∙◌, arith, rules}
use Rattle.std.proofs.lemmas.Grind.{common_steps}
use Rattle.grammar.specs.Reading.{then_read}
use Rattle.grammar.specs.FormReading.{then_found}
use Rattle.grammar.specs.Descent.{read, chain, level, in_a_row, onward}
use Rattle.grammar.specs.Descended.{part_seen}
use Rattle.grammar.specs.TreeView.{operator_seen}
use Rattle.grammar.proofs.Turns.{one_more}
use Rattle.grammar.proofs.Shortcut.{joins, chain_turn, onward_next, onward_done, nothing_on, from_operand, from_negation}
use Rattle.descent.proofs.expressions.Reader.+levels.Goals as goal

pub joined-loop-turn-preserved : goal.joined-loop-turn-preserved
joined-loop-turn-preserved g t c =
    let up = level (read c.args.self.now.turns) c.args.self.now.most (c.args.level + 1) in
    let left = c.in_a_row-turn-end.result - (c.loop-turn._turn + 1) in
    let seen = operator_seen c.in-Some.operator in
    one_more (λ n. chain c.args.level up c.args.room n (part_seen c.loop-turn.left) c.loop-turn.ahead) _ c.loop-turn._turn c.loop-turn-test.true c.loop-turn.invariant
    ∙ chain_turn c.args.level up c.args.room left (part_seen c.loop-turn.left) c.loop-turn.ahead c.operator.new.self seen c.in-Some.ensures
    ∙ ap (λ n. then_read (up n c.operator.new.self) (joins c.args.level up c.args.room left (part_seen c.loop-turn.left) seen)) (sym c.saturating_sub.ensures)
    ∙ ap (λ x. then_read x (joins c.args.level up c.args.room left (part_seen c.loop-turn.left) seen)) c.in_ok-right.ensures
    ∙ ap (λ x. then_found x (λ d. chain c.args.level up c.args.room left d c.level.new.ahead)) c.in_ok-left.ensures

pub level-returns-in_err-first : goal.level-returns-in_err-first
level-returns-in_err-first g t c =
    let n = c.if-negates.ensures in
    rw (from_negation (read c.args.self.now.turns) c.args.self.now.most c.args.level c.args.room c.args.ahead.now c.negates.new.ahead c.requires.loose n.0 n.1) (search rules)

pub level-returns-then-negates : goal.level-returns-then-negates
level-returns-then-negates g t c =
    let n = c.if-negates.ensures in
    rw (from_negation (read c.args.self.now.turns) c.args.self.now.most c.args.level c.args.room c.args.ahead.now c.negates.new.ahead c.requires.loose n.0 n.1) (search rules)

pub level-returns-in_err-first-2 : goal.level-returns-in_err-first-2
level-returns-in_err-first-2 g t c =
    let n = c.if-negates.ensures in
    rw (from_operand (read c.args.self.now.turns) c.args.self.now.most c.args.level c.args.room c.args.ahead.now c.requires.loose c.requires.tight n.0) (search rules)

pub level-returns : goal.level-returns
level-returns g t c =
    let n = c.if-negates.ensures in
    rw (from_operand (read c.args.self.now.turns) c.args.self.now.most c.args.level c.args.room c.args.ahead.now c.requires.loose c.requires.tight n.0) (search rules)

pub onward-returns-then-ends_here : goal.onward-returns-then-ends_here
onward-returns-then-ends_here g t c =
    nothing_on (read c.args.self.now.turns) c.args.self.now.most c.args.level c.args.room c.args.top (part_seen c.args.left) c.args.ahead.now (c.ends_here.ensures c.if-ends_here.true)

pub onward-returns-in_err-left : goal.onward-returns-in_err-left
onward-returns-in_err-left g t c =
    rw (c.loop-next.invariant ∙ onward_next (read c.args.self.now.turns) c.args.self.now.most c.args.level c.args.room c.loop-next.next (part_seen c.loop-next.left) c.loop-next.ahead (omega (arith, c.loop-next-test.true))) (search rules)

pub onward-loop-next-preserved : goal.onward-loop-next-preserved
onward-loop-next-preserved g t c =
    let inside = read c.args.self.now.turns in
    let most = c.args.self.now.most in
    c.loop-next.invariant
    ∙ onward_next inside most c.args.level c.args.room c.loop-next.next (part_seen c.loop-next.left) c.loop-next.ahead (omega (arith, c.loop-next-test.true))
    ∙ ap (λ o. then_read o (onward inside most c.args.level c.args.room (c.loop-next.next - 1))) c.in_ok-left.ensures

pub onward-returns : goal.onward-returns
onward-returns g t c =
    c.loop-next.invariant
    ∙ onward_done (read c.args.self.now.turns) c.args.self.now.most c.args.level c.args.room c.loop-next.next (part_seen c.loop-next.left) c.loop-next.ahead (omega (arith, c.loop-next-test.false))

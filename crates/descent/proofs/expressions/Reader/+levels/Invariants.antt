use Rattle.std.proofs.Common.{◌≡◌, ◌+◌, ◌-◌, ◌*◌}
use Rattle.grammar.specs.Descent.{read, chain, level, in_a_row, onward}
use Rattle.grammar.specs.Descended.{part_seen}
use Rattle.descent.proofs.expressions.Reader.+levels.Given as goal

-- the levels above, with what each of them calls before it comes to the next
abbrev pub decreases-joined : goal.decreases-joined
decreases-joined g l = 3 * (9 - l.level)

abbrev pub decreases-level : goal.decreases-level
decreases-level g l = 3 * (9 - l.level) + 2

abbrev pub decreases-onward : goal.decreases-onward
decreases-onward g l = 3 * (9 - l.level) + 1

abbrev pub invariant-joined-loop-turn : goal.invariant-joined-loop-turn
invariant-joined-loop-turn g l =
    chain l.level (level (read l.self.turns) l.self.most (l.level + 1)) l.room (in_a_row (read l.self.turns) l.self.most l.level) (part_seen l.fn.left) l.fn.ahead
    ≡ chain l.level (level (read l.self.turns) l.self.most (l.level + 1)) l.room (l._turn-end - l._turn) (part_seen l.left) l.ahead

abbrev pub invariant-onward-loop-next : goal.invariant-onward-loop-next
invariant-onward-loop-next g l =
    onward (read l.self.turns) l.self.most l.level l.room l.top (part_seen l.fn.left) l.fn.ahead
    ≡ onward (read l.self.turns) l.self.most l.level l.room l.next (part_seen l.left) l.ahead

use Rattle.std.proofs.Common.{◌≡◌, ◌-◌}
use Rattle.grammar.specs.Descent.{read, clauses, no_conditions}
use Rattle.grammar.specs.Descended.{conditions_seen}
use Rattle.descent.proofs.expressions.Reader.clauses.Given as goal

abbrev pub invariant-loop-turn : goal.invariant-loop-turn
invariant-loop-turn g l =
    clauses (read l.self.turns) l.self.most l.room l.self.most no_conditions l.fn.ahead
    ≡ clauses (read l.self.turns) l.self.most l.room (l._turn-end - l._turn) (conditions_seen l.found) l.ahead

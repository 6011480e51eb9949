use Rattle.std.proofs.Common.{◌≡◌, ◌-◌}
use Rattle.grammar.specs.Descent.{read, e9, suffixes}
use Rattle.grammar.specs.Descended.{part_seen}
use Rattle.descent.proofs.expressions.Reader.e9.Given as goal

abbrev pub invariant-loop-turn : goal.invariant-loop-turn
invariant-loop-turn g l =
    e9 (read l.self.turns) l.self.most l.room l.fn.ahead
    ≡ suffixes (read l.self.turns) l.self.most l.room (l._turn-end - l._turn) (part_seen l.whole) l.ahead

use Rattle.std.proofs.Common.{◌≡◌, ◌-◌}
use Rattle.grammar.specs.FormDescent.{more_values}
use Rattle.grammar.specs.Descended.{several_seen}
use Rattle.statements.proofs.line_forms.FormReader.more_values.Given as goal

abbrev pub invariant-loop-turn : goal.invariant-loop-turn
invariant-loop-turn l =
    more_values l.self.turns (l.self.turns - 1) (several_seen l.fn.found) l.fn.ahead ≡ more_values l.self.turns (l._turn-end - l._turn) (several_seen l.found) l.ahead

use Rattle.std.proofs.Common.{◌≡◌, ◌-◌, map}
use Rattle.grammar.specs.Descent.{gather}
use Rattle.grammar.specs.FormDescent.{params, param, with_param}
use Rattle.grammar.specs.LineView.{param_of}
use Rattle.lexer.specs.declared.layout.Bracket.TheVariants.{Round}
use Rattle.statements.proofs.line_forms.FormReader.params.Given as goal

abbrev pub invariant-loop-turn : goal.invariant-loop-turn
invariant-loop-turn l =
    params l.self.turns l.fn.ahead ≡ gather (param l.self.turns) (with_param l.self.turns) Round (l._turn-end - l._turn) (map param_of l.found.items) l.ahead

use Rattle.std.proofs.Common.{◌≡◌, ◌-◌, map}
use Rattle.grammar.specs.Descent.{gather}
use Rattle.grammar.specs.FormDescent.{items, item, with_item_of}
use Rattle.grammar.specs.LineView.{item_of}
use Rattle.lexer.specs.declared.layout.Bracket.TheVariants.{Round}
use Rattle.statements.proofs.line_forms.FormReader.items.Given as goal

abbrev pub invariant-loop-turn : goal.invariant-loop-turn
invariant-loop-turn l =
    items l.self.turns l.fn.ahead ≡ gather (item l.self.turns) (with_item_of l.self.turns) Round (l._turn-end - l._turn) (map item_of l.found.items) l.ahead

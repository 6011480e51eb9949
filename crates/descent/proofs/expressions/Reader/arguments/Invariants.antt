use Rattle.std.proofs.Common.{◌≡◌, ◌-◌}
use Rattle.grammar.specs.Descent.{read, arguments, argument, gather, with_argument}
use Rattle.grammar.specs.Descended.{arguments_seen}
use Rattle.lexer.specs.declared.layout.Bracket.TheVariants.{Round}
use Rattle.descent.proofs.expressions.Reader.arguments.Given as goal

abbrev pub invariant-loop-turn : goal.invariant-loop-turn
invariant-loop-turn g l =
    arguments (read l.self.turns) l.self.most l.room l.fn.ahead
    ≡ gather (argument (read l.self.turns) l.self.most l.room) with_argument Round (l._turn-end - l._turn) (arguments_seen l.found) l.ahead

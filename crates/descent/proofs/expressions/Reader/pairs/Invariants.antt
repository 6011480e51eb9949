use Rattle.std.proofs.Common.{◌≡◌, ◌-◌}
use Rattle.grammar.specs.Descent.{read, pairs, pair, gather, with_pair}
use Rattle.grammar.specs.Descended.{pairs_seen}
use Rattle.lexer.specs.declared.layout.Bracket.TheVariants.{Curly}
use Rattle.descent.proofs.expressions.Reader.pairs.Given as goal

abbrev pub invariant-loop-turn : goal.invariant-loop-turn
invariant-loop-turn g l =
    pairs (read l.self.turns) l.self.most l.room (pairs_seen l.fn.found) l.fn.ahead
    ≡ gather (pair (read l.self.turns) l.self.most l.room) with_pair Curly (l._turn-end - l._turn) (pairs_seen l.found) l.ahead

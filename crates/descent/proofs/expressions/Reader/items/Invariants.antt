use Rattle.std.proofs.Common.{◌≡◌, ◌-◌}
use Rattle.grammar.specs.Descent.{read, items, gather, with_item}
use Rattle.grammar.specs.Descended.{several_seen}
use Rattle.grammar.specs.declared.parts.Row.TheVariants.{Whole}
use Rattle.descent.proofs.expressions.Reader.items.Given as goal

abbrev pub invariant-loop-turn : goal.invariant-loop-turn
invariant-loop-turn g l =
    items (read l.self.turns) l.self.most l.room l.bracket (several_seen l.fn.found) l.fn.ahead
    ≡ gather (read l.self.turns Whole l.room) with_item l.bracket (l._turn-end - l._turn) (several_seen l.found) l.ahead

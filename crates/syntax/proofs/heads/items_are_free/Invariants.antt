use Rattle.std.proofs.Common.{◌≡◌, drop, map}
use Rattle.grammar.specs.LineView.{item_of}
use Rattle.file_syntax.specs.Scopes.{none_predeclared}
use Rattle.syntax.proofs.heads.items_are_free.Given as goal

abbrev pub invariant-loop-item : goal.invariant-loop-item
invariant-loop-item l = none_predeclared (map (λ i. i.binds) (map item_of l.items)) ≡ none_predeclared (map (λ i. i.binds) (map item_of (drop l.item-index l.items)))

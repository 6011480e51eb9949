use Rattle.std.proofs.Common.{◌≡◌, ◌++◌, drop, map}
use Rattle.grammar.specs.LineView.{item_of}
use Rattle.scopes.proofs.bound.add_items.Given as goal

abbrev pub invariant-loop-item : goal.invariant-loop-item
invariant-loop-item l = l.found.items ++ map (λ i. i.binds) (map item_of (drop l.item-index l.items)) ≡ l.initial.found.items ++ map (λ i. i.binds) (map item_of l.items)

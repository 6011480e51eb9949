use Rattle.std.proofs.Common.{◌≡◌, ◌++◌, drop, map}
use Rattle.grammar.specs.LineView.{item_of}
use Rattle.program_tree.specs.Resolved.{global_of}
use Rattle.syntax.proofs.heads.load.Given as goal

abbrev pub invariant-loop-item : goal.invariant-loop-item
invariant-loop-item l =
    l.found.items ++ map (λ i. record { asked = i.asked; binds = global_of l.scope i.binds }) (map item_of (drop l.item-index l.items))
    ≡ map (λ i. record { asked = i.asked; binds = global_of l.scope i.binds }) (map item_of l.items)

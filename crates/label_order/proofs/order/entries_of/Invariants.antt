use Rattle.std.proofs.Common.{◌≡◌, map, take}
use Rattle.label_order.proofs.order.entries_of.Given as goal

abbrev pub invariant-loop-one : goal.invariant-loop-one
invariant-loop-one l = l.all.items ≡ map (λ k. k.1) (take l.one-index l.keyed)

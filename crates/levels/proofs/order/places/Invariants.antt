use Rattle.std.proofs.Common.{◌≡◌, ℕ, map, take}
use Rattle.levels.proofs.order.places.Given as goal

abbrev pub invariant-loop-pair : goal.invariant-loop-pair
invariant-loop-pair l = l.places.items ≡ map (λ (p : ℕ × ℕ). p.1) (take l.pair-index l.pairs)

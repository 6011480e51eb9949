-- Depsets of many levels where the last serial is taken, by computation: `deep` is told before `large`.
use Rattle.std.specs.Prelude.{◌≡◌, ℕ, zero, suc, ◌-◌, ◌^◌, [], ◌∷◌, Err, refl}
use Rattle.depsets.specs.Rose.{Rose}
use Rattle.depsets.specs.Own.{Own}
use Rattle.depsets.specs.declared.depset.Order.TheVariants as order
use Rattle.ticks.specs.declared.ticks.Kind.TheVariants as kind
use Rattle.operations.specs.declared.state.State.{State}
use Rattle.operations.specs.Depsets.{next_depset, new_depset}
use Rattle.operations.proofs.Rows.{with_cells}

-- one depset above so many others, each the only child of the next
unfoldable chain : ℕ → Rose Own
chain zero = next_depset order.Default [] [] (with_cells [] 0)
chain (suc n) = next_depset order.Default [] (chain n ∷ []) (with_cells [] 0)

abbrev last : State
last = record (with_cells [] 0) { depsets = 2 ^ 64 - 1 }

thousand_levels : new_depset order.Default [] (chain 998 ∷ []) last ≡ Err kind.Large
unfolding chain
thousand_levels = refl

one_level_more : new_depset order.Default [] (chain 999 ∷ []) last ≡ Err kind.Deep
unfolding chain
one_level_more = refl

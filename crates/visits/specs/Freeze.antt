-- Freezing: the tree of a value, visited from the outside in and from left to right. (Starlark's
-- specification, "Freezing a value"; ticks, depth and what can't be frozen are this project's own.)
use Rattle.std.specs.Prelude.{ℕ, zero, suc, Bool, true, false, List, Option, Some, None, Result, Ok}
use Rattle.std.specs.Prelude.{Err, if◌then◌else◌}
use Rattle.values.specs.Tree.{key as key_tree, leaf, branch, list, tuple, dict, instance, trees}
use Rattle.values.specs.Tree.{pairs, slots}
use Rattle.values.specs.View.{FrozenTree}
use Rattle.leaves.specs.Leaves.{can_freeze}
use Rattle.ticks.specs.Ticking.{Count, Ticking, after_tick, then_on, with_count, entered}
use Rattle.values.specs.Visits.{all_of, keys_of}
use Rattle.values.specs.Shape.{Shape, key, atom, items, entries, fields, nothing, shape}
use Rattle.leaves.specs.declared.leaf.Leaf.{Leaf}
use Rattle.keys.specs.declared.key.Key.{Key}
use Rattle.values.specs.declared.value.Value.{Value}
use Rattle.values.specs.declared.cells.Cell.{Cell}
use Rattle.ticks.specs.declared.ticks.Kind.{Kind}
use Rattle.ticks.specs.declared.ticks.Kind.TheVariants.{Wrong, Deep}

-- a leaf as a frozen value; `type` where it can't be frozen
abbrev pub frozen_leaf : Leaf → Result FrozenTree Kind
frozen_leaf l = if can_freeze l then Ok (leaf l) else Err Wrong

-- the visit of a key, and then that of its value
abbrev pub frozen_entry : (Count → Result Count Kind) → (Value → Count → Ticking FrozenTree)
    → Key × Value → Count → Ticking FrozenTree
frozen_entry visit fr e c = after_tick (visit c) (λ d. fr e.1 d)

-- the field of an instance, where it was given
abbrev pub frozen_slot : (Value → Count → Ticking FrozenTree) → Option Value → Count
    → Ticking (Option FrozenTree)
frozen_slot fr None c = Ok (None, c)
frozen_slot fr (Some v) c = then_on (fr v c) (λ t d. Ok (Some t, d))

-- a frozen list, or else a frozen tuple, of these items
abbrev pub sequence : Bool → List FrozenTree → FrozenTree
sequence true ts = branch (list (trees ts))
sequence false ts = branch (tuple (trees ts))

-- The tree of what a value shows. A key of a dict is visited before its value; the name of a field
-- is no value.
abbrev pub built : (Count → Result Count Kind) → (Value → Count → Ticking FrozenTree) → Shape
    → Count → Ticking FrozenTree
built visit fr (key k) c = Ok (key_tree k, c)
built visit fr (atom l) c = with_count (frozen_leaf l) c
built visit fr (items j xs) c = then_on (all_of fr xs c) (λ ts d. Ok (sequence j ts, d))
built visit fr (entries es) c =
    then_on (all_of (frozen_entry visit fr) es c)
    (λ ts d. Ok (branch (dict (pairs (keys_of es) ts)), d))
built visit fr (fields p xs) c =
    then_on (all_of (frozen_slot fr) xs c) (λ os d. Ok (branch (instance p (slots os)), d))
built visit fr nothing c = Err Wrong

-- A value is one tick; then it is `deep` where no level is left; then its type decides.
unfoldable pub freeze_at : ℕ → List Cell → Value → Count → Ticking FrozenTree
freeze_at zero h v c = after_tick (entered zero c) (λ d. Err Deep)
freeze_at (suc n) h v c =
    after_tick (entered (suc n) c) (λ d. built (entered n) (freeze_at n h) (shape h v) d)

-- What it costs to visit a frozen value again: the ticks of freezing, without its tree.
-- (docs/PROFILE.md, "Ticks" and "Freezing"; this project's own.)
use Rattle.std.specs.Prelude.{◌≡◌, MatchResult, ℕ, zero, suc, List, [], ◌∷◌, Option, Some, None}
use Rattle.std.specs.Prelude.{Result, Ok, Err, Bool, true, false, if◌then◌else◌}
use Rattle.values.specs.Tree.{Pairs, key, leaf, branch, list, tuple, dict, instance, stop, pair}
use Rattle.values.specs.Tree.{tree_list, slot_list}
use Rattle.values.specs.View.{FrozenTree, FrozenBranch}
use Rattle.ticks.specs.Ticking.{Count, after_tick, entered}
use Rattle.ticks.specs.Extents.{IsExtent}
use Rattle.values.specs.Extents.{measure}
use Rattle.leaves.specs.Leaves.{can_freeze}
use Rattle.ticks.specs.declared.extent.Extent.{Extent}
use Rattle.leaves.specs.declared.leaf.Leaf.{Leaf}
use Rattle.leaves.specs.declared.leaf.Provider.{Provider}
use Rattle.keys.specs.declared.key.Key.{Key}
use Rattle.ticks.specs.declared.ticks.Kind.{Kind}
use Rattle.ticks.specs.declared.ticks.Kind.TheVariants.{Wrong, Deep}

-- the values of a frozen dict, in order, without their keys
abbrev pub values_in : Pairs Leaf Key Provider → List FrozenTree
values_in stop = []
values_in (pair k t ps) = t ∷ values_in ps

-- the visits of all, in order, until one is refused
abbrev pub all_visited : {X : Type 0} → (X → Count → Result Count Kind) → List X → Count
    → Result Count Kind
all_visited f [] c = Ok c
all_visited f (t ∷ ts) c = after_tick (f t c) (λ d. all_visited f ts d)

-- the visit of a key, and then that of its value
abbrev pub entry_visited : (Count → Result Count Kind) → (FrozenTree → Count → Result Count Kind)
    → FrozenTree → Count → Result Count Kind
entry_visited visit f t c = after_tick (visit c) (λ d. f t d)

-- the visit of a field, where it was given
abbrev pub slot_visited : (FrozenTree → Count → Result Count Kind) → Option FrozenTree → Count
    → Result Count Kind
slot_visited f None c = Ok c
slot_visited f (Some t) c = f t c

-- the visit of a leaf, which is refused where the leaf can't be frozen
abbrev pub leaf_visited : Leaf → Count → Result Count Kind
leaf_visited l c = if can_freeze l then Ok c else Err Wrong

-- a key of a dict is visited before its value; the name of a field is no value
abbrev pub branch_visited : (Count → Result Count Kind) → (FrozenTree → Count → Result Count Kind)
    → FrozenBranch → Count → Result Count Kind
branch_visited visit f (list ts) c = all_visited f (tree_list ts) c
branch_visited visit f (tuple ts) c = all_visited f (tree_list ts) c
branch_visited visit f (dict ps) c = all_visited (entry_visited visit f) (values_in ps) c
branch_visited visit f (instance p ss) c = all_visited (slot_visited f) (slot_list ss) c

-- What a visit does below the value itself: a key has nothing there, a leaf must be one that can be
-- frozen, and of all else the parts are visited.
abbrev pub visited : (Count → Result Count Kind) → (FrozenTree → Count → Result Count Kind)
    → FrozenTree → Count → Result Count Kind
visited visit f (key k) c = Ok c
visited visit f (leaf l) c = leaf_visited l c
visited visit f (branch b) c = branch_visited visit f b c

-- The visit of a frozen value is one tick; then it is `deep` where no level is left; then its parts
-- are visited.
unfoldable pub visit_at : ℕ → FrozenTree → Count → Result Count Kind
visit_at zero t c = after_tick (entered zero c) (λ d. Err Deep)
visit_at (suc n) t c = after_tick (entered (suc n) c) (λ d. visited (entered n) (visit_at n) t d)

-- A call that gives no value, and never answers want of memory, does what the definition gives.
abbrev pub Goes : Result Count Kind → Result (Unit {0}) Kind → Count → Type 0
Goes r result now = MatchResult result (λ _. r ≡ Ok now) (λ k. r ≡ Err k)

-- a visit at once, where what was noted of a value fits in the levels and the ticks that are left;
-- else no tick is used
abbrev pub AtOnce : Bool → ℕ → Extent → Count → Count → Type 0
AtOnce true left e before now =
    (t : FrozenTree) → IsExtent e (measure t) → visit_at left t before ≡ Ok now
AtOnce false left e before now = now ≡ before

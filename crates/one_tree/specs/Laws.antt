-- What keeps one tree for an id. (This project's own.)
use Rattle.std.specs.Prelude.{◌≡◌, ℕ, ◌+◌, List, [], ◌∷◌, Ok}
use Rattle.depsets.specs.Flat.{Among}
use Rattle.depsets.specs.Listed.{IsCoherent}
use Rattle.depsets.specs.declared.depset.Order.{Order}
use Rattle.depsets.specs.declared.element.Element.{Element}
use Rattle.printing.specs.TreeTexts.{IsCoherentTree}
use Rattle.ticks.specs.Ticking.{Count}
use Rattle.heap.specs.Laws.{Change, append, extend, set_index, set_key, heap_after}
use Rattle.values.specs.View.{FrozenTree}
use Rattle.values.specs.declared.cells.Cell.{Cell}
use Rattle.leaves.specs.declared.leaf.Leaf.TheVariants as plain
use Rattle.values.specs.declared.value.Value.{Value}
use Rattle.values.specs.declared.value.Value.TheVariants as value
use Rattle.visits.specs.Freeze.{freeze_at}
use Rattle.one_tree.specs.Found.{Set, in_tree, in_heap, together}
use Rattle.one_tree.specs.Sets.{IsOneTree, IsFresh, IsNumbered, AreIn, next}

-- An evaluation begins with what is fresh for its owner: none of the owner's serials is taken.
abbrev pub BeginsFresh : List ℕ → List Set → Type 0
BeginsFresh owner ds = IsFresh owner ds → IsNumbered owner 0 ds

-- A new depset, with the next serial of its owner and with children that are there, keeps one tree
-- for an id, and the owner's serials are those up to it.
abbrev pub NewDepsetKeeps : Type 0
NewDepsetKeeps =
    (owner : List ℕ) (made : ℕ) (h : List Cell) (vs : List Value) (o : Order) (es : List Element)
    (ds : List Set) →
    IsOneTree (together h vs) → IsNumbered owner made (together h vs) → AreIn ds (together h vs) →
    IsOneTree (together h (value.Leaf (plain.Depset (next owner made o es ds)) ∷ vs))
    × IsNumbered owner (made + 1)
    (together h (value.Leaf (plain.Depset (next owner made o es ds)) ∷ vs))

-- Of what has one tree for an id, each part has: what is dropped, and what is seen twice, change
-- nothing.
abbrev pub PartsKeep : Type 0
PartsKeep = (ds es : List Set) → AreIn ds es →
    (IsOneTree es → IsOneTree ds) × ((owner : List ℕ) → IsFresh owner es → IsFresh owner ds)
    × ((owner : List ℕ) (made : ℕ) → IsNumbered owner made es → IsNumbered owner made ds)

-- the values that a change puts into a cell
abbrev pub put_values : Change → List Value
put_values (append v x) = x ∷ []
put_values (extend v xs) = xs
put_values (set_index v i x) = x ∷ []
put_values (set_key v k x) = x ∷ []

-- A change of a heap brings no depset that wasn't in the heap or in what is put.
abbrev pub ChangesBringNone : Type 0
ChangesBringNone =
    (h g : List Cell) (c : Change) → heap_after h c ≡ Ok g
    → AreIn (in_heap g) (together h (put_values c))

-- Freezing brings none either: the depsets of the frozen value were in the heap or in the value.
abbrev pub FreezingBringsNone : Type 0
FreezingBringsNone =
    (levels : ℕ) (h : List Cell) (v : Value) (c : Count) (t : FrozenTree) (d : Count) →
    freeze_at levels h v c ≡ Ok (t, d) → AreIn (in_tree t) (together h (v ∷ []))

-- A depset in what has one tree for an id is coherent: its listing is that of the plain walk.
abbrev pub DepsetsAreCoherent : Type 0
DepsetsAreCoherent =
    (h : List Cell) (vs : List Value) (d : Set) → IsOneTree (together h vs)
    → Among d (together h vs) → IsCoherent d

-- and so is each in a frozen value, whose text is then that of the plain listings
abbrev pub TextsArePlain : Type 0
TextsArePlain = (t : FrozenTree) → IsOneTree (in_tree t) → IsCoherentTree t

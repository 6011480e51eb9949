-- What the linked files and the place of an evaluation owe, so that the operations of the language
-- keep one tree for an id. (This project's own.)
use Rattle.std.specs.Prelude.{◌≡◌, ℕ, List, Some, Ok}
use Rattle.leaves.specs.declared.leaf.Leaf.{Leaf}
use Rattle.leaves.specs.declared.leaf.MadeId.{MadeId}
use Rattle.values.specs.declared.value.Value.{Value}
use Rattle.operations.specs.Arguments.{Given}
use Rattle.operations.specs.Names.{Linked}
use Rattle.one_tree.specs.Found.{Set, in_value, in_values}
use Rattle.one_tree.specs.Sets.{AreIn}
use Rattle.keeping.specs.Kept.{Gives}
use Rattle.keeping.specs.Owed.{EachKeeps}
use Rattle.language.specs.Place.{Place}
use Rattle.language.specs.declared.whole.Whole.{Whole}
use Rattle.language.specs.Language.{language}
use Rattle.holding.specs.Held.{Seen, IsSeen, WholeHolds, held}

-- The linked files have no depsets but those that the evaluation was given.
pub record LinkedKeeps (base : List Set) (world : Linked) : Type 0 where
  pub names : (f n : ℕ) (v : Value) → world.names f n ≡ Some v → AreIn (in_value v) base
  pub defaults : (id : MadeId) → AreIn (in_values (world.defaults id)) base
  pub asked : (f : ℕ) (t x : List ℕ) (v : Value) → world.asked f t x ≡ Some v
      → AreIn (in_value v) base

-- by the owner of an evaluation, the depsets that it was given, and those in the work of its place
module _ {W : Type 0} (owner : List ℕ) (base : List Set) (in_work : W → List Set) where
  -- Each call of the place keeps what holds, and gives a value whose depsets were seen; so do its
  -- fields and items.
  pub record PlaceKeeps (place : Place W) : Type 0 where
    pub call : (k : Seen owner base) (l : Leaf) (g : Given) (w : Whole W)
        → AreIn (in_values g.items) k.sets → AreIn (in_values g.values) k.sets
        → WholeHolds in_work k w → Gives (held owner base in_work) IsSeen k (place.call l g w)
    pub method : (k : Seen owner base) (l : Leaf) (x : List ℕ) (g : Given) (w : Whole W)
        → AreIn (in_values g.items) k.sets → AreIn (in_values g.values) k.sets
        → WholeHolds in_work k w → Gives (held owner base in_work) IsSeen k (place.method l x g w)
    pub field : (k : Seen owner base) (l : Leaf) (x : List ℕ) (w : Whole W) (v : Value)
        → WholeHolds in_work k w → place.field l x w ≡ Ok v → IsSeen k v
    pub item : (k : Seen owner base) (n : ℕ) (a : Value) (w : Whole W) (v : Value)
        → WholeHolds in_work k w → place.item n a w ≡ Ok v → IsSeen k v

  -- Then each operation of the language keeps it.
  abbrev pub OperationsKeep : Type 0
  OperationsKeep = (world : Linked) (place : Place W) → LinkedKeeps base world
      → PlaceKeeps place → EachKeeps (held owner base in_work) (language world place)

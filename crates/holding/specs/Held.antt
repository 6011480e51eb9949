-- What holds of values and states at each point of an evaluation, of the depsets in them (Bazel's
-- documentation of depsets has no ids; that an id has one tree is this project's own). Beside the
-- evaluation stands what it has seen so far: the depsets that it was given, and those that it made.
-- That only grows.
use Rattle.std.specs.Prelude.{◌≡◌, ℕ, ◌⊎◌, List, Result, Ok, Err}
use Rattle.std.specs.List.{flat_map}
use Rattle.depsets.specs.Flat.{Among}
use Rattle.depsets.specs.Rose.{label}
use Rattle.values.specs.declared.value.Value.{Value}
use Rattle.ticks.specs.declared.ticks.Kind.{Kind}
use Rattle.operations.specs.declared.state.State.{State}
use Rattle.one_tree.specs.Found.{Set, in_value, in_values, in_fields, in_heap}
use Rattle.one_tree.specs.Sets.{IsOneTree, IsNumbered, AreIn}
use Rattle.keeping.specs.Kept.{Kept}
use Rattle.language.specs.declared.whole.Whole.{Whole}

-- The depsets that an evaluation of this owner has seen, which was given `base`: an id has one
-- tree, and each of them was given or is the owner's.
pub record Seen (owner : List ℕ) (base : List Set) : Type 0 where
  pub sets : List Set
  pub one : IsOneTree sets
  pub given : AreIn base sets
  pub theirs : (d : Set) → Among d sets → Among d base ⊎ ((label d).id.owner ≡ owner)

-- by the owner of an evaluation and the depsets that it was given
module _ {owner : List ℕ} {base : List Set} where
  -- what was seen so far was seen later too
  abbrev pub Grows : Seen owner base → Seen owner base → Type 0
  Grows k l = AreIn k.sets l.sets

  -- the depsets in a value were seen, with all that is below them
  abbrev pub IsSeen : Seen owner base → Value → Type 0
  IsSeen k v = AreIn (in_value v) k.sets

  -- A state whose depsets were seen: those in the heap, and those in what names and defaults have.
  -- The owner's have the serials from 1 up to the count of the state.
  pub record StateHolds (k : Seen owner base) (s : State) : Type 0 where
    pub owned : s.owner ≡ owner
    pub numbered : IsNumbered owner s.depsets k.sets
    pub heap : AreIn (in_heap s.heap) k.sets
    pub globals : AreIn (in_fields s.globals) k.sets
    pub loaded : AreIn (in_fields s.loaded) k.sets
    pub defaults : AreIn (flat_map in_values s.defaults) k.sets

  -- What an operation gives, if it gives something, is so of what was seen then, and the state
  -- after it holds.
  abbrev pub After : {A : Type 0} → (Seen owner base → A → Type 0) → Seen owner base
      → Result (A × State) Kind → Type 0
  After P k (Ok p) = (w : Seen owner base) × Grows k w × StateHolds w p.1 × P w p.0
  After P k (Err e) = Unit {0}

-- the same of a state with the work of its place, in which these depsets stand
pub record WholeHolds {owner : List ℕ} {base : List Set} {W : Type 0} (in_work : W → List Set)
    (k : Seen owner base) (w : Whole W) : Type 0 where
  pub state : StateHolds k w.state
  pub work : AreIn (in_work w.work) k.sets

-- what an evaluation keeps of its states and values, as the laws on keeping take it
abbrev pub held : {W : Type 0} → List ℕ → List Set → (W → List Set) → Kept (Whole W) Value
held owner base in_work = record {
  World = Seen owner base;
  grows = Grows;
  same = λ k d i. i;
  further = λ k l m f g d i. g d (f d i);
  holds = WholeHolds in_work;
  good = IsSeen;
  stays = λ k l v f i d j. f d (i d j);
}

-- What holds at each point of an evaluation, from what it is given to what it leaves. (This
-- project's own.)
use Rattle.std.specs.Prelude.{◌≡◌, ℕ, ◌+◌, ◌⊎◌, List, [], ◌∷◌, ◌++◌}
use Rattle.coherence.specs.Coherent.{IsMade}
use Rattle.depsets.specs.Flat.{Among}
use Rattle.depsets.specs.Rose.{label}
use Rattle.depsets.specs.declared.depset.Id.{Id}
use Rattle.depsets.specs.declared.depset.Order.{Order}
use Rattle.depsets.specs.declared.element.Element.{Element}
use Rattle.values.specs.View.{FrozenTree}
use Rattle.values.specs.declared.cells.Cell.{Cell}
use Rattle.leaves.specs.declared.leaf.Leaf.TheVariants as plain
use Rattle.values.specs.declared.value.Value.{Value}
use Rattle.values.specs.declared.value.Value.TheVariants as value
use Rattle.one_tree.specs.Found.{Set, in_outcome, in_values, together}
use Rattle.one_tree.specs.Sets.{IsOneTree, IsFresh, IsNumbered, AreIn, next}

-- The evaluation's owner has made so many depsets, was given those, and holds this heap and these
-- values, which are all that names, defaults, operands and registered actions have: an id has one
-- tree, also together with what was given, and each depset that it holds was given or is its own.
pub record Holds (owner : List ℕ) (made : ℕ) (known : List Set) (h : List Cell)
    (vs : List Value) : Type 0 where
  pub one : IsOneTree (known ++ together h vs)
  pub numbered : IsNumbered owner made (known ++ together h vs)
  pub theirs : (d : Set) → Among d (together h vs) → Among d known ⊎ ((label d).id.owner ≡ owner)

-- It holds at the beginning, of what has one tree for an id and is fresh for the owner.
abbrev pub HoldsAtFirst : Type 0
HoldsAtFirst = (owner : List ℕ) (known : List Set) (vs : List Value) →
    IsOneTree known → IsFresh owner known → AreIn (in_values vs) known → Holds owner 0 known [] vs

-- A new depset keeps it, whose children were given or are held.
abbrev pub HoldsOfNew : Type 0
HoldsOfNew =
    (owner : List ℕ) (made : ℕ) (known : List Set) (h : List Cell) (vs : List Value) (o : Order)
    (es : List Element) (ds : List Set) →
    Holds owner made known h vs → AreIn ds (together h vs) →
    Holds owner (made + 1) known h (value.Leaf (plain.Depset (next owner made o es ds)) ∷ vs)

-- So does every step that brings no depset: a change, a walk, a value that is taken or dropped,
-- what is read of a module.
abbrev pub HoldsOfTheSame : Type 0
HoldsOfTheSame =
    (owner : List ℕ) (made : ℕ) (known : List Set) (h g : List Cell) (vs ws : List Value) →
    Holds owner made known h vs → AreIn (together g ws) (known ++ together h vs)
    → Holds owner made known g ws

-- What an evaluation leaves is, with what it was given, one tree for an id, and what is new in it
-- is the owner's, with serials from 1: that is what the coherence of all outcomes asks of each.
abbrev pub OutcomeIsMade : Type 0
OutcomeIsMade =
    (owner : List ℕ) (made : ℕ) (known : List Set) (h : List Cell) (vs : List Value)
    (ts : List FrozenTree) →
    Holds owner made known h vs → AreIn (in_outcome ts) (together h vs) →
    IsMade (λ (d : Set). (label d).id) (λ (i : Id). i.owner) (λ (i : Id). i.serial) owner
    (λ d. Among d known) (λ d. Among d (in_outcome ts))

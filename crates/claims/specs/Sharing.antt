-- What the shared actions of a list are, whatever finds them: the sets of at least two equal
-- actions, no two of which have one owner, each whole and by the labels of its owners, the sets by
-- the least of their places. (This project's own rule.)
use Rattle.std.specs.Prelude.{◌≡◌, ◌≤◌, ◌<◌, ◌↔◌, ℕ, true, List, [], ◌∷◌, length, map, Contains}
use Rattle.std.specs.Prelude.{Some, slice_get}
use Rattle.std.specs.Option.{option_map_or}
use Rattle.depsets.specs.Own.{Own}
use Rattle.depsets.specs.Rose.{Rose}
use Rattle.depsets.specs.declared.element.Element.{Element}
use Rattle.actions.specs.Ascending.{AreAscending, Each}
use Rattle.claims.specs.Clashes.{IsAmong}
use Rattle.claims.specs.Owned.{Owned}
use Rattle.claims.specs.Same.{same_action}
use Rattle.claims.specs.Telling.{equals, is_shared}
use Rattle.claims.specs.declared.sets.Shared.{Shared}

-- the label of the owner of the action at a place
abbrev pub label_at : List Owned → ℕ → List ℕ
label_at os i = option_map_or (λ o. o.label) (slice_get os i) []

-- the least place of one stands before all of another
abbrev pub IsBefore : Shared → Shared → Type 0
IsBefore s t = (i : ℕ) × Contains s.places i × Each (λ j. i < j) t.places

-- sets are in the order of their least places
abbrev pub AreByPlace : List Shared → Type 0
AreByPlace [] = Unit {0}
AreByPlace (s ∷ ss) = Each (IsBefore s) ss × AreByPlace ss

module _ (listing : Rose Own → List Element) (os : List Owned) where
  -- At least two places, by the labels of their owners, no two the same; and with one place all
  -- whose actions are equal to its own.
  pub record IsSharedSet (s : Shared) : Type 0 where
    pub two : 2 ≤ length s.places
    pub within : Each (λ i. i < length os) s.places
    pub owners : s.owners ≡ map (label_at os) s.places
    pub ordered : AreAscending s.owners
    pub whole : (i j : ℕ) (a b : Owned) → Contains s.places i → slice_get os i ≡ Some a
        → slice_get os j ≡ Some b
        → (same_action listing a.action b.action ≡ true) ↔ Contains s.places j

  -- Each is such a set; each action that is shared stands in one; and they are in the order of
  -- their least places.
  pub record AreShared (ss : List Shared) : Type 0 where
    pub only : Each IsSharedSet ss
    pub all : (i : ℕ) (a : Owned) → slice_get os i ≡ Some a
        → is_shared (map (λ p. p.label) (equals listing os a)) ≡ true
        → (s : Shared) × IsAmong s ss × Contains s.places i
    pub ordered : AreByPlace ss

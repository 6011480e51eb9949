-- How the actions of a list are told: an action is shared where at least two of the list are equal
-- to it, itself counted, and no two of these have one owner. It is told once, where the least of
-- its owners is, with the labels of all. (This project's own rule.)
use Rattle.std.specs.Prelude.{ℕ, Bool, ◌&&◌, not, if◌then◌else◌, List, [], ◌∷◌, length, map, nat_lt}
use Rattle.std.specs.List.{filter}
use Rattle.std.specs.BTreeSet.{insert_key}
use Rattle.std.specs.Cmp.Lexicographic.{slice_cmp}
use Rattle.std.specs.Ordering.{nat_cmp}
use Rattle.std.specs.Str.{bytes_eq}
use Rattle.depsets.specs.Own.{Own}
use Rattle.depsets.specs.Rose.{Rose}
use Rattle.depsets.specs.declared.element.Element.{Element}
use Rattle.claims.specs.Clashes.{some_pair}
use Rattle.claims.specs.Owned.{Owned}
use Rattle.claims.specs.Same.{same_action}
use Rattle.claims.specs.Tellings.{is_first}
use Rattle.claims.specs.declared.telling.Telling.{Telling}
use Rattle.claims.specs.declared.telling.Telling.TheVariants.{Alone, Owners, Elsewhere}

-- at least two, and no two the same
abbrev pub is_shared : List (List ℕ) → Bool
is_shared labels = nat_lt 1 (length labels) && not (some_pair bytes_eq labels)

-- texts by their bytes, each once
abbrev pub in_text_order : List (List ℕ) → List (List ℕ)
in_text_order [] = []
in_text_order (x ∷ xs) = insert_key (slice_cmp nat_cmp) (in_text_order xs) x

-- where these are the owners of the actions that are equal to one, itself counted, and this is its
-- own
abbrev pub telling_of : List (List ℕ) → List ℕ → Telling
telling_of labels own =
    if is_shared labels
    then (if is_first own (in_text_order labels) then Owners (in_text_order labels) else Elsewhere)
    else Alone

module _ (listing : Rose Own → List Element) (os : List Owned) where
  -- the actions that are equal to one
  abbrev pub equals : Owned → List Owned
  equals o = filter (λ p. same_action listing o.action p.action) os

  -- how an action of the list is told: by itself, for all its owners, or where the least of these
  -- is
  abbrev pub telling : Owned → Telling
  telling o = telling_of (map (λ p. p.label) (equals o)) o.label

-- What the conflicts of a list of actions are, whatever finds them: the paths that two of the
-- actions declare that have one owner or aren't equal, by bytes of the path, each with the labels
-- of all actions that declare it. (This project's own rule.)
use Rattle.std.specs.Prelude.{◌≡◌, ◌⊎◌, ◌||◌, ℕ, Bool, true, false, not, List, [], ◌∷◌, map}
use Rattle.std.specs.List.{filter, list_any}
use Rattle.std.specs.Str.{bytes_eq}
use Rattle.depsets.specs.Own.{Own}
use Rattle.depsets.specs.Rose.{Rose}
use Rattle.depsets.specs.declared.element.Element.{Element}
use Rattle.actions.specs.Ascending.{AreAscending, Each}
use Rattle.claims.specs.Claims.{claims_from, in_order, is_on}
use Rattle.claims.specs.Owned.{Owned}
use Rattle.claims.specs.Same.{same_action}
use Rattle.claims.specs.declared.claiming.Claim.{Claim}
use Rattle.claims.specs.declared.clashes.Conflict.{Conflict}

module _ {X : Type 0} where
  -- one of these
  abbrev pub IsAmong : X → List X → Type 0
  IsAmong x [] = ⊥
  IsAmong x (y ∷ ys) = (x ≡ y) ⊎ IsAmong x ys

  -- whether one of them does this with a later one
  abbrev pub some_pair : (X → X → Bool) → List X → Bool
  some_pair P [] = false
  some_pair P (x ∷ xs) = list_any (P x) xs || some_pair P xs

-- whether one of its outputs is the path
abbrev pub declares : List ℕ → Owned → Bool
declares p o = list_any (λ f. bytes_eq p f.path) o.action.outputs

-- the labels of the claims on a path, as the claims follow one another
abbrev pub labels_on : List ℕ → List Claim → List (List ℕ)
labels_on p cs = map (λ c. c.label) (filter (is_on p) cs)

-- the labels of the actions that declare a path, by label and then by place in the list, one for
-- each action
abbrev pub owners : List ℕ → List Owned → List (List ℕ)
owners p os = labels_on p (in_order (claims_from 0 os))

module _ (listing : Rose Own → List Element) where
  -- two actions clash where they have one owner or aren't equal
  abbrev pub clash : Owned → Owned → Bool
  clash a b = bytes_eq a.label b.label || not (same_action listing a.action b.action)

  -- a path clashes where two of the actions that declare it do
  abbrev pub clashes : List ℕ → List Owned → Bool
  clashes p os = some_pair clash (filter (declares p) os)

  -- By bytes of the path, no path twice; each path that clashes, with the labels of its actions;
  -- and no other.
  pub record AreConflicts (os : List Owned) (cs : List Conflict) : Type 0 where
    pub ordered : AreAscending (map (λ c. c.path) cs)
    pub all : (p : List ℕ) → clashes p os ≡ true
        → IsAmong (record { path = p; labels = owners p os }) cs
    pub only : Each (λ c. (clashes c.path os ≡ true) × (c.labels ≡ owners c.path os)) cs

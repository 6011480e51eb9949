-- How actions are told, as it is found by their leaders and the sets of these. (docs/PROFILE.md,
-- "Shared actions"; this project's own.)
use Rattle.std.specs.Prelude.{ℕ, ◌+◌, Bool, false, if◌then◌else◌, List, [], ◌∷◌, Option, None, Some}
use Rattle.std.specs.Prelude.{slice_index_or}
use Rattle.std.specs.Str.{bytes_eq}
use Rattle.claims.specs.Owned.{Owned}
use Rattle.claims.specs.declared.sets.Shared.{Shared}
use Rattle.claims.specs.declared.telling.Telling.{Telling}
use Rattle.claims.specs.declared.telling.Telling.TheVariants.{Alone, Owners, Elsewhere}

-- whether a text is the first of these
abbrev pub is_first : List ℕ → List (List ℕ) → Bool
is_first x [] = false
is_first x (y ∷ ys) = bytes_eq x y

-- how an action with this owner is told, by the set that it is shared in, if it is
abbrev pub telling_by : Option Shared → List ℕ → Telling
telling_by None label = Alone
telling_by (Some s) label = if is_first label s.owners then Owners s.owners else Elsewhere

-- how actions are told, the first of which is at the place: each by the set that stands at its
-- leader
abbrev pub tellings_from : List ℕ → List (Option Shared) → ℕ → List Owned → List Telling
tellings_from ls ss n [] = []
tellings_from ls ss n (o ∷ os) =
    telling_by (slice_index_or ss (slice_index_or ls n n) None) o.label
    ∷ tellings_from ls ss (n + 1) os

-- how an action is told where none of the list is shared
abbrev pub alone : Owned → Telling
alone o = Alone

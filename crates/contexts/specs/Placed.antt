-- Dependencies that are found by their labels. (This project's own.)
use Rattle.std.specs.Prelude.{◌≡◌, ℕ, Bool, true, false, List, length, Option, Some}
use Rattle.std.specs.Borrow.{Bor}
use Rattle.std.specs.Prelude.{unwrap_or}
use Rattle.indexmap.specs.IndexMap.{IndexMap, get}
use Rattle.workspace.specs.Labels.{LabelParts, same_label}
use Rattle.targets.specs.Checks.{Dependency}
use Rattle.contexts.specs.Fields.{place_of}

-- the key of a dependency in the map of places: a package and a name, where they lie
abbrev pub Key : Type 0
Key = Bor (List ℕ) × Bor (List ℕ)

-- the label that a key is of
abbrev pub key_label : Key → LabelParts
key_label k = record { «package» = k.0.now; name = k.1.now }

-- whether two keys are of the same label
abbrev pub same_key : Key → Key → Bool
same_key p q = same_label (key_label p) (key_label q)

-- the place of a label after `i` was noted for one: `i` if it is that one, and else what it was
abbrev pub first_at : Bool → ℕ → Option ℕ → Option ℕ
first_at true i o = Some i
first_at false i o = o

module _ {S : Type 0} where
  -- the map tells of each label what `place_of` does: its first place among the dependencies, or
  -- how many they are where it has none
  abbrev pub ArePlaced : List Dependency → IndexMap Key ℕ S → Type 0
  ArePlaced ds places = (q : Key)
      → unwrap_or (get same_key places q) (length ds) ≡ place_of ds (key_label q)

  -- a label has this place now, and every other the place that it had
  abbrev pub HasFirst : LabelParts → ℕ → IndexMap Key ℕ S → IndexMap Key ℕ S → Type 0
  HasFirst l i olds news = (q : Key)
      → get same_key news q ≡ first_at (same_label (key_label q) l) i (get same_key olds q)

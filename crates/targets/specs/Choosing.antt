-- Keys that stand in a table in place of a list (this project's own).
use Rattle.std.specs.Prelude.{◌≡◌, ◌||◌, List}
use Rattle.std.specs.List.{list_any}
use Rattle.keys.specs.declared.key.Key.{Key}
use Rattle.leaves.specs.Leaves.{same_key}

-- the same keys are found in a table as in the list
abbrev pub HasAll : List Key → List Key → Type 0
HasAll listed table = (k : Key) → list_any (same_key k) table ≡ list_any (same_key k) listed

-- what is found in a table is found after a key was put there, and that key is
abbrev pub HasMore : Key → List Key → List Key → Type 0
HasMore key olds news =
    (k : Key) → list_any (same_key k) news ≡ (list_any (same_key k) olds || same_key k key)

-- Lists that fill up: each has a room of its own among the entries, and takes the first of its
-- room. (This project's own.)
use Rattle.std.specs.Prelude.{◌≡◌, ℕ, ◌+◌, ◌-◌, ◌<◌, ◌≤◌, List, [], ◌∷◌, ◌++◌, length, map, take}
use Rattle.std.specs.Prelude.{slice_index, slice_set}
use Rattle.std.specs.List.{range_with_len, slice_range, sum}
use Rattle.edges.specs.Flat.{IsFlat}
use Rattle.edges.specs.Rows.{row}

-- the lists so far, and how many entries each has room for
pub record RoomsView : Type 0 where
  pub lists : List (List ℕ)
  pub room : List ℕ

-- the entries from the start of a room as far as it is filled
abbrev pub filled : List ℕ → List ℕ → List ℕ → List (List ℕ)
filled starts ends entries =
    map (λ n. slice_range entries (slice_index starts n) (slice_index ends n))
    (range_with_len 0 (length ends))

-- how long each room is
abbrev pub rooms : List ℕ → ℕ → List ℕ
rooms starts count =
    map (λ n. slice_index starts (n + 1) - slice_index starts n) (range_with_len 0 count)

-- what a contract sees of rooms from where each starts, how far it is filled, and all entries
abbrev pub seen : List ℕ → List ℕ → List ℕ → RoomsView
seen starts ends entries =
    record { lists = filled starts ends entries; room = rooms starts (length ends) }

-- each list ends within its room
pub record IsRoomy (starts ends entries : List ℕ) : Type 0 where
  pub flat : IsFlat starts entries
  pub count : length starts ≡ length ends + 1
  pub within : (n : ℕ) → n < length ends
      → (slice_index starts n ≤ slice_index ends n)
      × (slice_index ends n ≤ slice_index starts (n + 1))

-- the sum of the first i sizes: where the room of that number starts, when rooms of these sizes
-- stand one behind the other
abbrev pub sum_to : List ℕ → ℕ → ℕ
sum_to sizes i = sum (take i sizes)

-- where the first n rooms start, when rooms of these sizes stand one behind the other
abbrev pub starts_of : List ℕ → ℕ → List ℕ
starts_of sizes n = map (sum_to sizes) (range_with_len 0 n)

-- the first lists are empty
abbrev pub AreEmpty : List (List ℕ) → ℕ → Type 0
AreEmpty lists count = (n : ℕ) → n < count → row lists n ≡ []

-- each list fills its room
abbrev pub AreFull : RoomsView → Type 0
AreFull v = (n : ℕ) → n < length v.lists → length (row v.lists n) ≡ slice_index v.room n

-- one entry more in a list
abbrev pub pushed : List (List ℕ) → ℕ → ℕ → List (List ℕ)
pushed lists n entry = slice_set lists n (row lists n ++ entry ∷ [])

-- What a walk over the edges counts and files. (This project's own.)
use Rattle.std.specs.Prelude.{◌≡◌, ℕ, ◌+◌, ◌<◌, true, List, [], ◌∷◌, ◌++◌, length, slice_index}
use Rattle.std.specs.Prelude.{if◌then◌else◌}
use Rattle.edges.specs.Rows.{row, has, users_of}
use Rattle.edges.specs.Rooms.{RoomsView}

-- one user more is counted for each node of the list
abbrev pub Counted : List ℕ → List ℕ → List ℕ → Type 0
Counted list old new =
    (d : ℕ) → slice_index new d ≡ (if has list d then slice_index old d + 1 else slice_index old d)

-- the user is filed with each node of the list
abbrev pub Filed : List ℕ → ℕ → List (List ℕ) → List (List ℕ) → Type 0
Filed list user old new =
    (d : ℕ) → row new d ≡ (if has list d then row old d ++ user ∷ [] else row old d)

-- how many users each node has
abbrev pub AreCounts : List (List ℕ) → List ℕ → Type 0
AreCounts deps counts = (d : ℕ) → d < length deps → slice_index counts d ≡ length (users_of deps d)

-- there is room for one user more of each node of the list
abbrev pub HaveRoom : List ℕ → RoomsView → Type 0
HaveRoom list users =
    (d : ℕ) → has list d ≡ true → length (row users.lists d) < slice_index users.room d

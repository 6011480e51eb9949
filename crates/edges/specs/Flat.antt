-- Rows in one flat form: all entries, one row behind the other, and where each row starts. (This
-- project's own.)
use Rattle.std.specs.Prelude.{◌≡◌, ℕ, ◌+◌, ◌-◌, ◌<◌, ◌≤◌, List, length, map, slice_index}
use Rattle.std.specs.List.{range_with_len, slice_range}

-- the entries from the start of a row to the start of the next
abbrev pub flat_row : List ℕ → List ℕ → ℕ → List ℕ
flat_row starts entries n = slice_range entries (slice_index starts n) (slice_index starts (n + 1))

-- all rows: there is one start more than there are rows
abbrev pub flat_rows : List ℕ → List ℕ → List (List ℕ)
flat_rows starts entries = map (flat_row starts entries) (range_with_len 0 (length starts - 1))

-- the first row starts with the entries, no row starts before an earlier one, and the last one ends
-- with the entries
pub record IsFlat (starts entries : List ℕ) : Type 0 where
  pub some : 0 < length starts
  pub begins : slice_index starts 0 ≡ 0
  pub climbs : (i j : ℕ) → i ≤ j → j < length starts → slice_index starts i ≤ slice_index starts j
  pub ends : slice_index starts (length starts - 1) ≡ length entries

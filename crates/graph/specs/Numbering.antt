-- Numbers for what is reached: the place of each in a list that grows. (This project's own.)
use Rattle.std.specs.Prelude.{◌≡◌, ℕ, ◌<◌, ◌≤◌, ◌⊎◌, ◌++◌, Bool, true, List, length, map}
use Rattle.std.specs.Prelude.{slice_index_or}
use Rattle.std.specs.List.{list_any, IsDistinct}
use Rattle.edges.specs.Rows.{row, has}
use Rattle.graph.specs.Reached.{IsReached}

-- new ones come last, and are those of a list that had no place
pub record Grown {L : Type 0} (same : L → L → Bool) (old from new : List L) : Type 0 where
  pub kept : (more : List L) × (new ≡ old ++ more)
  pub each : (x : L) → list_any (same x) new ≡ true
      → (list_any (same x) old ≡ true) ⊎ (list_any (same x) from ≡ true)
  pub distinct : IsDistinct same old → IsDistinct same new

-- these are the numbers of what is named
pub record AreNumbers {L : Type 0} (none : L) (nodes named : List L)
    (numbers : List ℕ) : Type 0 where
  pub inside : (n : ℕ) → has numbers n ≡ true → n < length nodes
  pub names : map (λ n. slice_index_or nodes n none) numbers ≡ named

-- All nodes are reached, and all that is asked for is among them. The rows so far, no more than
-- nodes, have what the first nodes need, each once.
pub record Numbering {L : Type 0} (same : L → L → Bool) (none : L) (needs : L → List L)
    (asked nodes : List L) (rows : List (List ℕ)) : Type 0 where
  pub once : IsDistinct same nodes
  pub reached : (x : L) → list_any (same x) nodes ≡ true → IsReached needs asked x
  pub all_asked : (x : L) → list_any (same x) asked ≡ true → list_any (same x) nodes ≡ true
  pub within : length rows ≤ length nodes
  pub named : (n : ℕ) → n < length rows
      → AreNumbers none nodes (needs (slice_index_or nodes n none)) (row rows n)
  pub apart : (n : ℕ) → n < length rows → IsDistinct same (needs (slice_index_or nodes n none))

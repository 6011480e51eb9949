-- How high nodes stand above those that they depend on, and orders by a key (this project's own).
use Rattle.std.specs.Prelude.{◌≡◌, ℕ, ◌<◌, ◌≤◌, List, length, map, slice_index, slice_index_or}
use Rattle.edges.specs.Rows.{row}
use Rattle.edges.specs.Walks.{OnCycle}
use Rattle.loading.specs.Modules.{above_all}

-- The numbers from 0, one a key and each once, in ascending order of their keys.
pub record IsOrderBy (keys order : List ℕ) : Type 0 where
  pub size : length order ≡ length keys
  pub nodes : (k : ℕ) → k < length order → slice_index order k < length keys
  pub all : (n : ℕ) → n < length keys → (k : ℕ) × (k < length order) × (slice_index order k ≡ n)
  pub ascends : (i j : ℕ) → i ≤ j → j < length order
      → slice_index keys (slice_index order i) ≤ slice_index keys (slice_index order j)

-- each key with its place
pub record AreKeyed (keys : List ℕ) (pairs : List (ℕ × ℕ)) : Type 0 where
  pub size : length pairs ≡ length keys
  pub each : (n : ℕ) → n < length keys → slice_index_or pairs n (0, 0) ≡ (slice_index keys n, n)

-- The heights of nodes: 0 on a cycle, and else one more than the highest of those that a node
-- depends on, 0 where it depends on none.
pub record AreHeights (deps : List (List ℕ)) (heights : List ℕ) : Type 0 where
  pub size : length heights ≡ length deps
  pub cyclic : (n : ℕ) → n < length deps → OnCycle (row deps) n → slice_index heights n ≡ 0
  pub others : (n : ℕ) → n < length deps → (OnCycle (row deps) n → ⊥)
      → slice_index heights n ≡ above_all (map (slice_index heights) (row deps n))

-- no node stands higher than the number of its component
abbrev pub AreBounded : List ℕ → List ℕ → Type 0
AreBounded numbers heights = (n : ℕ) → slice_index heights n ≤ slice_index numbers n

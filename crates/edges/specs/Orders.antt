-- An order of nodes in which each comes after all its dependencies, as far as that can be. (This
-- project's own.)
use Rattle.std.specs.Prelude.{◌≡◌, ℕ, ◌<◌, ◌≤◌, true, not, List, length, map, take, filter}
use Rattle.std.specs.Prelude.{slice_index, nat_eq}
use Rattle.std.specs.List.{IsDistinct, range_with_len}
use Rattle.edges.specs.Walks.{Cyclic}
use Rattle.edges.specs.Rows.{row, has}

-- the places of what isn't zero
abbrev pub rest : List ℕ → List ℕ
rest ns = filter (λ n. not (nat_eq (slice_index ns n) 0)) (range_with_len 0 (length ns))

-- An order of all nodes: the first `acyclic` come after all their dependencies, and the others are
-- cyclic.
pub record IsOrder (given : List (List ℕ)) (order : List ℕ) (acyclic : ℕ) : Type 0 where
  pub once : IsDistinct nat_eq order
  pub listed : length order ≡ length given
  pub nodes : (k : ℕ) → k < length given → slice_index order k < length given
  pub all : (v : ℕ) → v < length given → has order v ≡ true
  pub within : acyclic ≤ length given
  pub after : (k d : ℕ) → k < acyclic → has (row given (slice_index order k)) d ≡ true
      → has (take k order) d ≡ true
  pub behind : (k : ℕ) → acyclic ≤ k → k < length given → Cyclic (row given) (slice_index order k)

-- the dependencies of each node in order, as places in the order
abbrev pub replaced : List (List ℕ) → List ℕ → List ℕ → List (List ℕ)
replaced given order places = map (λ v. map (slice_index places) (row given v)) order

-- each entry is a node
abbrev pub AreNodes : List ℕ → ℕ → Type 0
AreNodes order nodes = (k : ℕ) → k < length order → slice_index order k < nodes

-- the place of each node in order
abbrev pub ArePlaces : List ℕ → List ℕ → Type 0
ArePlaces order places = (k : ℕ) → k < length order → slice_index places (slice_index order k) ≡ k

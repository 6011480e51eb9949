-- Strongly connected components: sets of nodes of which each leads to each other along
-- dependencies. (A notion of all graphs; that they are told by such numbers is this project's own.)
use Rattle.std.specs.Prelude.{◌≡◌, ◌↔◌, ℕ, ◌<◌, ◌≤◌, true, List, length, slice_index}
use Rattle.edges.specs.Rows.{row, has}
use Rattle.edges.specs.Walks.{Leads}

-- a row has nodes alone
abbrev pub IsRowInside : List ℕ → ℕ → Type 0
IsRowInside ds nodes = (d : ℕ) → has ds d ≡ true → d < nodes

-- each dependency is a node
abbrev pub AreInside : List (List ℕ) → Type 0
AreInside deps = (n : ℕ) → IsRowInside (row deps n) (length deps)

-- The numbers of the nodes' components: two nodes have one number exactly where each leads to the
-- other, and no dependency has a greater number.
pub record AreComponents (deps : List (List ℕ)) (numbers : List ℕ) : Type 0 where
  pub size : length numbers ≡ length deps
  pub together : (n m : ℕ) → n < length deps → m < length deps
      → (slice_index numbers n ≡ slice_index numbers m)
      ↔ (Leads (row deps) n m × Leads (row deps) m n)
  pub after : (n d : ℕ) → has (row deps n) d ≡ true → slice_index numbers d ≤ slice_index numbers n

-- a graph with the numbers of its nodes' components
pub record Found : Type 0 where
  pub deps : List (List ℕ)
  pub numbers : List ℕ

-- each dependency is a node, and the numbers are those of the components
pub record IsFound (f : Found) : Type 0 where
  pub inside : AreInside f.deps
  pub components : AreComponents f.deps f.numbers

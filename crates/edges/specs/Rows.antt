-- A graph whose nodes are numbers, as a list of rows: the row at a place has the numbers of a
-- node's dependencies, or of its users. (This project's own.)
use Rattle.std.specs.Prelude.{◌≡◌, ℕ, ◌<◌, ◌≤◌, Bool, true, List, [], length, map, filter}
use Rattle.std.specs.Prelude.{slice_index, slice_index_or, nat_eq, Vec}
use Rattle.std.specs.List.{list_any, IsDistinct, range_with_len}
use Rattle.edges.specs.Walks.{Cyclic}

-- a row of node numbers for each node, by its number
abbrev pub Rows : Type 0
Rows = List (List ℕ)

-- the row of a node; past the last node there is none
abbrev pub row : List (List ℕ) → ℕ → List ℕ
row rows n = slice_index_or rows n []

-- whether a number is listed
abbrev pub has : List ℕ → ℕ → Bool
has ns n = list_any (nat_eq n) ns

-- Each entry of a row is one of so many nodes, and none stands there twice.
pub record IsRow (nodes : ℕ) (list : List ℕ) : Type 0 where
  pub distinct : IsDistinct nat_eq list
  pub inside : (d : ℕ) → has list d ≡ true → d < nodes

-- Each dependency is a node, and no node names one twice.
pub record IsGraph (deps : List (List ℕ)) : Type 0 where
  pub distinct : (n : ℕ) → IsDistinct nat_eq (row deps n)
  pub inside : (n d : ℕ) → has (row deps n) d ≡ true → d < length deps

-- The users of d, each once and by number: the nodes that depend on it.
abbrev pub users_of : List (List ℕ) → ℕ → List ℕ
users_of deps d = filter (λ n. has (row deps n) d) (range_with_len 0 (length deps))

-- the users of all nodes
abbrev pub all_users : List (List ℕ) → List (List ℕ)
all_users deps = map (users_of deps) (range_with_len 0 (length deps))

-- The nodes without dependencies, by number.
abbrev pub ready_of : List (List ℕ) → List ℕ
ready_of deps = filter (λ n. nat_eq (length (row deps n)) 0) (range_with_len 0 (length deps))

-- The nodes stand in an order that respects dependencies: those below `acyclic` come after all that
-- they depend on, so the number of each is its rank; those behind them are the cyclic ones.
pub record IsOrdered (deps : List (List ℕ)) (acyclic : ℕ) : Type 0 where
  pub within : acyclic ≤ length deps
  pub after : (n d : ℕ) → n < acyclic → has (row deps n) d ≡ true → d < n
  pub behind : (n : ℕ) → acyclic ≤ n → n < length deps → Cyclic (row deps) n

-- The same graph under new numbers: `origin` lists, by new number, the old number of each node,
-- each once, and the dependencies of each node are the same nodes in the same order.
pub record IsRenumbered (given : List (List ℕ)) (origin : List ℕ)
    (deps : List (List ℕ)) : Type 0 where
  pub size : length deps ≡ length given
  pub listed : length origin ≡ length given
  pub once : IsDistinct nat_eq origin
  pub nodes : (k : ℕ) → k < length given → slice_index origin k < length given
  pub same : (k : ℕ) → k < length given
      → map (slice_index origin) (row deps k) ≡ row given (slice_index origin k)

-- the lists of several vectors
abbrev pub lists : {Z : Type 0} → List (Vec ℕ Z) → List (List ℕ)
lists vs = map (λ v. v.items) vs

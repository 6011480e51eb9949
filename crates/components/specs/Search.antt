-- The search for components along dependencies, depth first, with a path of open components (H. N.
-- Gabow, "Path-based depth-first search for strong and biconnected components", 2000). What is said
-- of it here is this project's own.
use Rattle.std.specs.Prelude.{◌≡◌, ◌≢◌, ℕ, ◌-◌, ◌<◌, ◌≤◌, ◌⊎◌, true, List, [], length, slice_index}
use Rattle.std.specs.Prelude.{slice_index_or}
use Rattle.edges.specs.Rows.{row, has}
use Rattle.edges.specs.Walks.{Leads}
use Rattle.components.specs.declared.search.Place.{Place}
use Rattle.components.specs.declared.search.Place.TheVariants.{Unmet, Open, Closed}
use Rattle.components.specs.declared.search.Start.{Start}

-- The nodes of open components in the order in which they were met; the ends of edges that wait to
-- be followed, those of a component together; where each open component starts; where each node
-- stands; and the nodes of closed components in the order of closing.
pub record View : Type 0 where
  pub path : List ℕ
  pub waiting : List ℕ
  pub starts : List Start
  pub places : List Place
  pub order : List ℕ

-- where a node stands: not met, on the path, or closed; past the last node all are unmet
abbrev pub place_of : List Place → ℕ → Place
place_of ps n = slice_index_or ps n Unmet

-- where the open component of this number starts, on the path and among the edges; past the last
-- one both are 0
abbrev pub start_of : List Start → ℕ → Start
start_of ss g = slice_index_or ss g (record { nodes = 0; edges = 0 })

-- each component that starts at or before the first place of the path starts at or before the
-- second
abbrev pub Sees : List Start → ℕ → ℕ → Type 0
Sees ss i j = (g : ℕ) → g < length ss → (start_of ss g).nodes ≤ i → (start_of ss g).nodes ≤ j

-- each component that starts at or before the place on the path has its edges from this one or
-- before
abbrev pub Waits : List Start → ℕ → ℕ → Type 0
Waits ss i e = (g : ℕ) → g < length ss → (start_of ss g).nodes ≤ i → (start_of ss g).edges ≤ e

-- an edge that waits is of the component of its source
abbrev pub IsSource : List Start → ℕ → ℕ → Type 0
IsSource ss i e = (g : ℕ) → g < length ss → (start_of ss g).edges ≤ e → (start_of ss g).nodes ≤ i

-- the components start one behind the other
abbrev pub AreAscending : List Start → Type 0
AreAscending ss =
    (g h : ℕ) → g < h → h < length ss
    → ((start_of ss g).nodes < (start_of ss h).nodes)
    × ((start_of ss g).edges ≤ (start_of ss h).edges)

module _ (deps : List (List ℕ)) where
  -- an edge from a place of the path leads to a closed node, or to a node on the path that leads
  -- back, or waits
  abbrev pub IsSettled : View → ℕ → ℕ → Type 0
  IsSettled v i d =
      ((c : ℕ) × (place_of v.places d ≡ Closed c))
      ⊎ (((k : ℕ) × (k < length v.path) × (slice_index v.path k ≡ d) × Sees v.starts i k)
      ⊎ ((e : ℕ) × (e < length v.waiting) × (slice_index v.waiting e ≡ d) × Waits v.starts i e))

  -- What the search keeps, but for edges that `follows` tells of.
  pub record IsSearchBut (follows : ℕ → Type 0) (v : View) : Type 0 where
    pub size : length v.places ≡ length deps
    -- a node is open at its place on the path
    pub placed : (n k : ℕ) → place_of v.places n ≡ Open k
        → (k < length v.path) × (slice_index v.path k ≡ n)
    pub met : (k : ℕ) → k < length v.path → place_of v.places (slice_index v.path k) ≡ Open k
    pub ascending : AreAscending v.starts
    pub within : (g : ℕ) → g < length v.starts
        → ((start_of v.starts g).nodes < length v.path)
        × ((start_of v.starts g).edges ≤ length v.waiting)
    pub covered : (k : ℕ) → k < length v.path
        → (g : ℕ) × (g < length v.starts) × ((start_of v.starts g).nodes ≤ k)
    -- a node leads to all that come later on the path, and to all of its component
    pub leads : (i j : ℕ) → i < length v.path → j < length v.path → Sees v.starts i j
        → Leads (row deps) (slice_index v.path i) (slice_index v.path j)
    pub settled : (i d : ℕ) → i < length v.path → has (row deps (slice_index v.path i)) d ≡ true
        → IsSettled v i d ⊎ follows d
    pub sources : (e : ℕ) → e < length v.waiting
        → (i : ℕ) × (i < length v.path)
        × (has (row deps (slice_index v.path i)) (slice_index v.waiting e) ≡ true)
        × IsSource v.starts i e × Waits v.starts i e
    -- a closed node's component is below those to come, and leads to closed ones of no greater
    -- number
    pub numbered : (n c : ℕ) → place_of v.places n ≡ Closed c → c < length v.order
    pub behind : (n c d : ℕ) → place_of v.places n ≡ Closed c → has (row deps n) d ≡ true
        → (e : ℕ) × (place_of v.places d ≡ Closed e) × (e ≤ c)
    pub joined : (n m c : ℕ) → place_of v.places n ≡ Closed c → place_of v.places m ≡ Closed c
        → Leads (row deps) n m

  -- What the search keeps, of all edges.
  abbrev pub IsSearch : View → Type 0
  IsSearch = IsSearchBut (λ d. ⊥)

  -- an edge that is followed comes from a node of the last component
  pub record IsFrom (v : View) (d : ℕ) : Type 0 where
    pub source : ℕ
    pub on : source < length v.path
    pub edge : has (row deps (slice_index v.path source)) d ≡ true
    pub last : (g : ℕ) → g < length v.starts → (start_of v.starts g).nodes ≤ source

  -- no component is open, and of the nodes below a number all were met
  pub record IsResting (upto : ℕ) (v : View) : Type 0 where
    pub search : IsSearch v
    pub none : v.starts ≡ []
    pub all : (n : ℕ) → n < upto → place_of v.places n ≢ Unmet

-- nothing was met
pub record IsBlank (nodes : ℕ) (v : View) : Type 0 where
  pub path : v.path ≡ []
  pub waiting : v.waiting ≡ []
  pub starts : v.starts ≡ []
  pub size : length v.places ≡ nodes
  pub places : (n : ℕ) → place_of v.places n ≡ Unmet
  pub order : v.order ≡ []

-- what was met stays so
abbrev pub StayMet : View → View → Type 0
StayMet old new = (n : ℕ) → place_of old.places n ≢ Unmet → place_of new.places n ≢ Unmet

-- the last of the open components
abbrev pub IsLast : Start → List Start → Type 0
IsLast start ss = (0 < length ss) × (start ≡ start_of ss (length ss - 1))

-- the number of a closed node's component, and 0 of any other node
abbrev pub number_of : Place → ℕ
number_of Unmet = 0
number_of (Open k) = 0
number_of (Closed c) = c

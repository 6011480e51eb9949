-- What each turn of the search does. (This project's own.)
use Rattle.std.specs.Prelude.{◌≡◌, ℕ, ◌+◌, ◌-◌, ◌<◌, ◌≤◌, List, [], ◌∷◌, ◌++◌, length, take, drop}
use Rattle.std.specs.Prelude.{slice_set}
use Rattle.edges.specs.Rows.{row}
use Rattle.components.specs.declared.search.Place.{Place}
use Rattle.components.specs.declared.search.Place.TheVariants.{Unmet, Open, Closed}
use Rattle.components.specs.declared.search.Start.{Start}
use Rattle.components.specs.Search.{View, start_of}

-- A node is met: it is a component of its own so far, and all its edges wait.
abbrev pub met : List (List ℕ) → ℕ → View → View
met deps n v = record {
  path = v.path ++ n ∷ [];
  waiting = v.waiting ++ row deps n;
  starts = v.starts ++ record { nodes = length v.path; edges = length v.waiting } ∷ [];
  places = slice_set v.places n (Open (length v.path));
  order = v.order;
}

-- the last component starts behind this place of the path
abbrev pub LastIsBehind : ℕ → List Start → Type 0
LastIsBehind place ss = (0 < length ss) × (place < (start_of ss (length ss - 1)).nodes)

-- the last component, if there is one, starts at this place of the path or before it
abbrev pub LastIsBefore : ℕ → List Start → Type 0
LastIsBefore place ss = 0 < length ss → (start_of ss (length ss - 1)).nodes ≤ place

-- All components from a place of the path on are one: those that start behind it are no longer
-- apart.
pub record IsJoined (place : ℕ) (old new : View) : Type 0 where
  pub starts : new.starts ≡ take (length new.starts) old.starts
  pub fewer : length new.starts ≤ length old.starts
  pub kept : (g : ℕ) → g < length new.starts → (start_of old.starts g).nodes ≤ place
  pub gone : (g : ℕ) → length new.starts ≤ g → g < length old.starts
      → place < (start_of old.starts g).nodes
  pub path : new.path ≡ old.path
  pub waiting : new.waiting ≡ old.waiting
  pub places : new.places ≡ old.places
  pub order : new.order ≡ old.order

-- these nodes are closed, with this number
abbrev pub closed_all : List ℕ → ℕ → List Place → List Place
closed_all [] c ps = ps
closed_all (n ∷ ns) c ps = closed_all ns c (slice_set ps n (Closed c))

-- the search with these edges waiting
abbrev pub popped : List ℕ → View → View
popped ws v =
    record { path = v.path; waiting = ws; starts = v.starts; places = v.places; order = v.order }

-- the search with these components open
abbrev pub left : List Start → View → View
left ss v =
    record { path = v.path; waiting = v.waiting; starts = ss; places = v.places; order = v.order }

-- the last edge that waits leads to d, and waits no longer
pub record IsPopped (d : ℕ) (old new : View) : Type 0 where
  pub waits : old.waiting ≡ new.waiting ++ d ∷ []
  pub same : new ≡ popped new.waiting old

-- The component that starts at this place of the path is closed. It has the number of nodes that
-- were closed before. These components stay open.
abbrev pub closed : ℕ → List Start → View → View
closed start rest v = record {
  path = take start v.path;
  waiting = v.waiting;
  starts = rest;
  places = closed_all (drop start v.path) (length v.order) v.places;
  order = v.order ++ drop start v.path;
}

-- ---- What is left to do: to meet each node and follow its edges, to follow the edges that wait,
-- ---- and to close what is open.

-- what is left to do for a node with these dependencies: to meet it and to close it, and to follow
-- its edges; nothing once it was met
abbrev pub weight : List ℕ → Place → ℕ
weight ds Unmet = length ds + 2
weight ds (Open k) = 0
weight ds (Closed c) = 0

-- what is left to do for all nodes, row by row
abbrev pub unmet_work : List (List ℕ) → List Place → ℕ
unmet_work [] ps = 0
unmet_work (ds ∷ rows) [] = 0
unmet_work (ds ∷ rows) (p ∷ ps) = weight ds p + unmet_work rows ps

-- What is left to do in all. Each turn makes it less, so the search ends.
abbrev pub work_of : List (List ℕ) → View → ℕ
work_of deps v = unmet_work deps v.places + length v.waiting + length v.starts

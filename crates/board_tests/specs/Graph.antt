-- A graph as lists of numbers: of each node its dependencies, and of each node its users. (This
-- project's own.)
use Rattle.std.specs.Prelude.{◌≡◌, ℕ, ◌<◌, ◌≤◌, List, length}
use Rattle.board.specs.Journal.{times, deps}

-- both lists of a graph: the plan has the dependencies of each node
pub record GraphView : Type 0 where
  pub plan : List (List ℕ)
  pub users : List (List ℕ)

-- no list has a number twice
abbrev pub AllDistinct : List (List ℕ) → Type 0
AllDistinct lists = (n x : ℕ) → times x (deps lists n) ≤ 1

-- the lists have numbers of lists alone
abbrev pub AllInside : List (List ℕ) → Type 0
AllInside lists = (n x : ℕ) → 0 < times x (deps lists n) → x < length lists

-- where the list of n has x, the other list of x has n
abbrev pub Mirrors : List (List ℕ) → List (List ℕ) → Type 0
Mirrors lists others = (n x : ℕ) → 0 < times x (deps lists n) → 0 < times n (deps others x)

-- distinct dependencies and users, all of them nodes, and each stands in both
pub record IsGraph (plan users : List (List ℕ)) : Type 0 where
  pub plan_distinct : AllDistinct plan
  pub users_distinct : AllDistinct users
  pub plan_inside : AllInside plan
  pub users_inside : AllInside users
  pub size : length users ≡ length plan
  pub used : Mirrors plan users
  pub using : Mirrors users plan

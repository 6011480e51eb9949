-- What a graph of numbered nodes is. (This project's own.)
use Rattle.std.specs.Prelude.{◌≡◌, ℕ, List}
use Rattle.edges.specs.Rows.{all_users, ready_of, IsGraph, IsOrdered}

-- the dependencies of each node, and how many nodes, the first ones, are not cyclic
pub record EdgesView : Type 0 where
  pub deps : List (List ℕ)
  pub acyclic : ℕ

-- users and nodes without dependencies are those of the dependencies, and the nodes stand in order
pub record IsEdges (deps users : List (List ℕ)) (ready : List ℕ) (acyclic : ℕ) : Type 0 where
  pub graph : IsGraph deps
  pub users_are : users ≡ all_users deps
  pub ready_are : ready ≡ ready_of deps
  pub order : IsOrdered deps acyclic

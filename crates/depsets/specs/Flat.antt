-- The listing of a depset, its nodes, its work, and what it is to be coherent. (docs/PROFILE.md,
-- "Listing a depset"; this project's own.)
use Rattle.std.specs.Prelude.{◌≡◌, ℕ, ◌+◌, Bool, cond, List, [], ◌∷◌, ◌++◌, ◌⊎◌, length, map}
use Rattle.std.specs.Prelude.{sum_by}
use Rattle.depsets.specs.Rose.{Rose, Roses, node, none, more, label}
use Rattle.depsets.specs.Keys.{firsts}

-- x is one of the list
abbrev pub Among : {X : Type 0} → X → List X → Type 0
Among x [] = ⊥
Among x (y ∷ ys) = (y ≡ x) ⊎ Among x ys

module _ {L : Type 0} where
  abbrev mutual
    -- the node and all below it, the node last
    pub nodes : Rose L → List (Rose L)
    nodes (node x ts) = nodes_of ts ++ node x ts ∷ []

    -- the nodes of these trees, one tree after the other
    pub nodes_of : Roses L → List (Rose L)
    nodes_of none = []
    nodes_of (more t ts) = nodes t ++ nodes_of ts

  -- how many children there are: each is one link
  abbrev pub how_many : Roses L → ℕ
  how_many none = 0
  how_many (more t ts) = how_many ts + 1

module _ {L I : Type 0} (id : L → I) where
  -- any two of the nodes with one id are the same tree
  abbrev pub IsCoherent : List (Rose L) → Type 0
  IsCoherent ns = (a b : Rose L) → Among a ns → Among b ns → id (label a) ≡ id (label b) → a ≡ b

  -- the ids of the nodes, in turn
  abbrev pub ids : List (Rose L) → List I
  ids ns = map (λ a. id (label a)) ns

module _ {L E : Type 0} (direct : L → List E) where
  abbrev mutual
    -- the elements in the order of the walk: in preorder the node's own come first, else its
    -- children's
    pub walk : Bool → Rose L → List E
    walk pre (node x ts) = cond pre (direct x ++ walks pre ts) (walks pre ts ++ direct x)

    -- the walks of these trees, one after the other
    pub walks : Bool → Roses L → List E
    walks pre none = []
    walks pre (more t ts) = walk pre t ++ walks pre ts

  -- the elements and links of one node
  abbrev pub cost : Rose L → ℕ
  cost (node x ts) = length (direct x) + how_many ts

  module _ {I : Type 0} (id : L → I) (eqI : I → I → Bool) where
    -- the cost of the first node with the id, 0 where none has it
    abbrev pub cost_of : List (Rose L) → I → ℕ
    cost_of [] i = 0
    cost_of (a ∷ rest) i = cond (eqI i (id (label a))) (cost a) (cost_of rest i)

    -- 1, and over the distinct ids the elements and links: the steps that a listing takes. A part
    -- that is shared counts once.
    abbrev pub work : Rose L → ℕ
    work t = sum_by (cost_of (nodes t)) (firsts eqI (ids id (nodes t))) + 1

  module _ (eqE : E → E → Bool) where
    -- the listing: the walk of the whole tree, and then the first occurrence of each element
    abbrev pub flat : Bool → Rose L → List E
    flat pre t = firsts eqE (walk pre t)

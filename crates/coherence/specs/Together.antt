-- The depsets of all outcomes of a graph. Each is made by the node that owns it, or was there
-- before, and goes along edges from outcome to outcome. (This project's own.)
use Rattle.std.specs.Prelude.{◌≡◌, ◌⊎◌, List, Contains}
use Rattle.edges.specs.Walks.{Cyclic}
use Rattle.coherence.specs.Coherent.{Depsets, AreCoherent, AreFresh}

-- A graph whose nodes have outcomes: what depsets an outcome has; the id of a depset, and the owner
-- of an id; the name by which a node owns; which nodes have such a name; and the depsets that every
-- node is given, as those of all modules.
pub record Graph (N V D I O : Type 0) : Type 1 where
  pub deps : N → List N
  pub out : N → V
  pub has : V → Depsets D
  pub id : D → I
  pub owner : I → O
  pub name : N → O
  pub named : N → Type 0
  pub base : Depsets D

module _ {N V D I O : Type 0} (g : Graph N V D I O) where
  -- the depsets that a node is given: those that every node is, and those in the outcomes of its
  -- dependencies
  abbrev pub given : N → Depsets D
  given t d = g.base d ⊎ ((u : N) × Contains (g.deps t) u × g.has (g.out u) d)

  -- those that every node is given, and those in these outcomes
  abbrev pub among : List V → Depsets D
  among us d = g.base d ⊎ ((v : V) × Contains us v × g.has v d)

  -- the outcome of a node is coherent with what the node was given, and each depset of it was given
  -- or is the node's own
  pub record IsKept (t : N) : Type 0 where
    pub together : AreCoherent g.id g.owner (λ d. given t d ⊎ g.has (g.out t) d)
    pub theirs : (d : D) → g.has (g.out t) d → given t d ⊎ (g.owner (g.id d) ≡ g.name t)

  -- What is promised of one node: where what it is given is coherent and fresh for it, its outcome
  -- is kept.
  abbrev pub Keeps : N → Type 0
  Keeps t =
      AreCoherent g.id g.owner (given t) → AreFresh g.id g.owner (g.name t) (given t) → IsKept t

  -- What is promised of each node. Names tell nodes apart, and what every node is given is coherent
  -- and no node's. A cyclic node's outcome has no depset; any other's is kept, or has none.
  pub record EachKeeps : Type 0 where
    pub names : (t u : N) → g.named t → g.named u → g.name t ≡ g.name u → t ≡ u
    pub base_coherent : AreCoherent g.id g.owner g.base
    pub base_apart : (t : N) → g.named t → AreFresh g.id g.owner (g.name t) g.base
    pub cyclic : (t : N) → Cyclic g.deps t → (d : D) → g.has (g.out t) d → ⊥
    pub others : (t : N) → (Cyclic g.deps t → ⊥)
        → (g.named t × Keeps t) ⊎ ((d : D) → g.has (g.out t) d → ⊥)

  -- All outcomes together are coherent; what a node is given is fresh for it, also for a cyclic
  -- one; and each depset is a node's, or every node was given it.
  pub record AllCoherent : Type 0 where
    pub coherent : AreCoherent g.id g.owner (λ d. g.base d ⊎ ((t : N) × g.has (g.out t) d))
    pub fresh : (t : N) → g.named t → AreFresh g.id g.owner (g.name t) (given t)
    pub owned : (t : N) (d : D) → g.has (g.out t) d
        → g.base d ⊎ ((o : N) × g.named o × (g.owner (g.id d) ≡ g.name o))

  -- the condition of a node's work: the outcomes that it is handed are coherent and fresh for it,
  -- with what every node is given
  pub record Fits (t : N) (us : List V) : Type 0 where
    pub coherent : AreCoherent g.id g.owner (among us)
    pub fresh : AreFresh g.id g.owner (g.name t) (among us)

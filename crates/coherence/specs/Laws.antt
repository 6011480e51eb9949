-- What the definitions of coherence mean, for collections that a test tells. (This project's own.)
use Rattle.std.specs.Prelude.{◌≡◌, ◌⊎◌, ℕ, Bool, true, List, map, Contains, Decides}
use Rattle.std.specs.List.{list_any}
use Rattle.coherence.specs.Coherent.{Depsets, AreCoherent, AreFresh, IsMade}
use Rattle.coherence.specs.Together.{Graph, EachKeeps, AllCoherent, Fits}

-- A graph whose collections are told by tests, which say true of what is in them. `same` tests
-- whether two nodes are one, and `listed` has every node that has dependencies.
pub record Told (N V D I O : Type 0) : Type 0 where
  pub deps : N → List N
  pub out : N → V
  pub has : V → D → Bool
  pub id : D → I
  pub owner : I → O
  pub name : N → O
  pub named : N → Bool
  pub base : D → Bool
  pub same : N → N → Bool
  pub decides : (a b : N) → Decides (same a b) (a ≡ b)
  pub listed : List N
  pub finite : (t d : N) → Contains (deps t) d → list_any (same t) listed ≡ true

module _ {N V D I O : Type 0} (g : Told N V D I O) where
  -- the graph that these tests tell, as the definitions of coherence take it
  abbrev pub graph : Graph N V D I O
  graph = record {
    deps = g.deps;
    out = g.out;
    has = λ v d. g.has v d ≡ true;
    id = g.id;
    owner = g.owner;
    name = g.name;
    named = λ t. g.named t ≡ true;
    base = λ d. g.base d ≡ true;
  }

  -- where each node keeps coherence, all outcomes together are coherent
  abbrev pub KeptByEach : Type 0
  KeptByEach = EachKeeps graph → AllCoherent graph

  -- and what each node is handed fits
  abbrev pub HandedFits : Type 0
  HandedFits = EachKeeps graph → (t : N) → g.named t ≡ true → Fits graph t (map g.out (g.deps t))

module _ {D I O : Type 0} (id : D → I) (owner : I → O) (serial : I → ℕ) (o : O)
    (given made : D → Bool) where
  -- the collection of what a test says yes to
  abbrev pub In : (D → Bool) → Depsets D
  In S d = S d ≡ true

  -- A depset of the owner with serial 0 joins what its evaluation made, which counts from 1.
  abbrev pub FirstJoins : Type 0
  FirstJoins =
      AreFresh id owner o (In given) → IsMade id owner serial o (In given) (In made) → (z : D)
      → owner (id z) ≡ o → serial (id z) ≡ 0
      → AreCoherent id owner (λ d. In given d ⊎ (In made d ⊎ (d ≡ z)))

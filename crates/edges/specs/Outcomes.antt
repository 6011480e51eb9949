-- The outcome of each node, by recursion along dependencies. No order of work, worker or count
-- stands here. (Bazel documentation, "Dependencies"; what becomes of cyclic nodes is this project's
-- own; docs/PROFILE.md, "Outcomes".)
use Rattle.std.specs.Prelude.{◌≡◌, ◌↔◌, ℕ, zero, suc, Bool, true, false, List, length, map, IsTrue}
use Rattle.edges.specs.Walks.{Cyclic, is_cyclic}
use Rattle.edges.specs.Rows.{row}

module _ {L V : Type 0} (deps : L → List L) (cycle : L → V) (step : L → List V → V) where
  -- These are the outcomes: a cyclic node has the one that says so, and any other's is the step
  -- over the outcomes of its dependencies, in their order.
  pub record AreOutcomes (out : L → V) : Type 0 where
    pub cyclic : (t : L) → Cyclic deps t → out t ≡ cycle t
    pub stepped : (t : L) → (Cyclic deps t → ⊥) → out t ≡ step t (map out (deps t))

  -- The outcome along walks of at most so many edges. At most `nodes` nodes have dependencies, so
  -- no walk from a node that isn't cyclic is longer.
  abbrev pub outcome_within : ℕ → ℕ → L → V
  outcome_within nodes zero t = cycle t
  outcome_within nodes (suc n) t = elim (is_cyclic deps nodes t) [
    | true ↦ cycle t
    | false ↦ step t (map (outcome_within nodes n) (deps t))
  ]

  -- The outcome of a node.
  abbrev pub outcome : ℕ → L → V
  outcome nodes t = outcome_within nodes (suc nodes) t

module _ {L V : Type 0} (deps : L → List L) (cycle : L → V) (step : L → List V → V)
    (fits : L → List V → Type 0) where
  -- Of each node that isn't cyclic the outcomes of its dependencies fit.
  abbrev pub AllFit : (L → V) → Type 0
  AllFit out = (t : L) → (Cyclic deps t → ⊥) → fits t (map out (deps t))

  -- What work on the nodes found: the cyclic ones' outcomes, and of each other node, wherever what
  -- was found of its dependencies fits, the step over that.
  pub record AreFound (found : L → V) : Type 0 where
    pub cyclic : (t : L) → Cyclic deps t → found t ≡ cycle t
    pub worked : (t : L) → (Cyclic deps t → ⊥) → fits t (map found (deps t))
        → found t ≡ step t (map found (deps t))

-- ---- over a graph whose nodes are numbers

-- the bounded test tells what is cyclic
abbrev pub TellsCycles : List (List ℕ) → Type 0
TellsCycles deps = (n : ℕ) → IsTrue (is_cyclic (row deps) (length deps) n) ↔ Cyclic (row deps) n

-- the outcome of a node from the outcomes of its dependencies: what work on one node computes
abbrev pub Step : Type 0 → Type 0
Step V = ℕ → List V → V

-- a test of the outcomes of a node's dependencies: where it holds, work on the node gives its step
abbrev pub Test : Type 0 → Type 0
Test V = ℕ → List V → Bool

module _ {V : Type 0} (deps : List (List ℕ)) (cycle : ℕ → V) (step : Step V) where
  -- the outcome of each node of the graph of these rows, which a run has to find
  abbrev pub outcome_of : ℕ → V
  outcome_of = outcome (row deps) cycle step (length deps)

  -- the outcomes have their laws
  abbrev pub AreLawful : Type 0
  AreLawful = AreOutcomes (row deps) cycle step outcome_of

  -- no other function has them
  abbrev pub AreAlone : Type 0
  AreAlone =
      (other : ℕ → V) → AreOutcomes (row deps) cycle step other → (n : ℕ) → other n ≡ outcome_of n

  -- work that is the step wherever a test holds finds them, if the test holds of them
  abbrev pub FoundByWork : Test V → Type 0
  FoundByWork fits =
      (found : ℕ → V) → AreFound (row deps) cycle step (λ n us. IsTrue (fits n us)) found
      → AllFit (row deps) cycle step (λ n us. IsTrue (fits n us)) outcome_of
      → (n : ℕ) → found n ≡ outcome_of n

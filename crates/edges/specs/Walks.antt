-- Walks along dependencies, and the nodes that no order can put after all their dependencies. A
-- node is anything that has a list of dependencies: a number, a label, a file. (docs/PROFILE.md,
-- "Load faults" and "Dependencies and nodes"; this project's own.)
use Rattle.std.specs.Prelude.{◌≡◌, ℕ, zero, suc, Bool, true, List, Contains}
use Rattle.std.specs.List.{list_any}

module _ {L : Type 0} (deps : L → List L) where
  -- A walk of n edges leads from a to b: each edge goes from a node to one of its dependencies.
  abbrev pub Walk : ℕ → L → L → Type 0
  Walk zero a b = a ≡ b
  Walk (suc n) a b = (c : L) × Contains (deps a) c × Walk n c b

  -- Some walk leads from a to b, perhaps of no edge.
  abbrev pub Leads : L → L → Type 0
  Leads a b = (n : ℕ) × Walk n a b

  -- The node lies on a cycle: it has a walk of at least one edge back to itself.
  abbrev pub OnCycle : L → Type 0
  OnCycle c = (k : ℕ) × Walk (suc k) c c

  -- A node is cyclic where some walk leads from it to a node that lies on a cycle.
  abbrev pub Cyclic : L → Type 0
  Cyclic t = (c : L) × Leads t c × OnCycle c

  -- whether a walk of n edges begins at t
  abbrev pub goes_on : ℕ → L → Bool
  goes_on zero t = true
  goes_on (suc n) t = list_any (goes_on n) (deps t)

  -- Whether t is cyclic, where at most so many nodes have dependencies: a walk of more edges than
  -- that comes to one of them twice.
  abbrev pub is_cyclic : ℕ → L → Bool
  is_cyclic nodes t = goes_on (suc nodes) t

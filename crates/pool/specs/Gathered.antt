-- What a run found: a value for each node that ran, and the outcome of those that are cyclic. No
-- worker, order or number of threads stands here. (This project's own.)
use Rattle.std.specs.Prelude.{◌≡◌, ℕ, ◌<◌, List, length, unwrap_or}
use Rattle.board.specs.Views.{ClosedView, told}
use Rattle.edges.specs.Rows.{row}
use Rattle.edges.specs.Outcomes.{AllFit, outcome_of}

-- how many nodes there are, the board of those that ran, and the outcome of the others
pub record GatheredView (V : Type 0) : Type 0 where
  pub nodes : ℕ
  pub closed : ClosedView V
  pub cycle : V

-- the outcome of a node: what the board tells of it, or where it ran on none that of a cyclic node
abbrev pub outcome_in : {V : Type 0} → GatheredView V → ℕ → V
outcome_in g n = unwrap_or (told g.closed n) g.cycle

module _ {V : Type 0} (cycle : V) (step : ℕ → List V → V) (fits : ℕ → List V → Type 0)
    (deps : List (List ℕ)) where
  -- A run that gathered g found the outcome of each node, which is by recursion along edges,
  -- wherever the outcomes of all dependencies fit.
  abbrev pub HasOutcomes : GatheredView V → Type 0
  HasOutcomes g =
      AllFit (row deps) (λ _. cycle) step fits (outcome_of deps (λ _. cycle) step)
      → (n : ℕ) → n < length deps → outcome_in g n ≡ outcome_of deps (λ _. cycle) step n

-- What becomes of nodes is what becomes of their labels. (This project's own.)
use Rattle.std.specs.Prelude.{◌≡◌, ℕ, ◌<◌, List, length}
use Rattle.workspace.specs.Labels.{LabelParts}
use Rattle.edges.specs.Rows.{row}
use Rattle.edges.specs.Outcomes.{AreOutcomes}
use Rattle.graph.specs.Same.{label_at}
use Rattle.graph.specs.Graphs.{GraphView}

-- what labels need
abbrev pub Needs : Type 0
Needs = LabelParts → List LabelParts

-- the outcome of a label from those of what it needs
abbrev pub Step : Type 0 → Type 0
Step V = LabelParts → List V → V

-- what has the laws of outcomes over the nodes of a graph is, at each node, what has them over the
-- labels
abbrev pub AreOfLabels : {V : Type 0} → Needs → GraphView → (LabelParts → V) → Step V → Type 0
AreOfLabels {V} needs g cycle step =
    (out : LabelParts → V) (found : ℕ → V) → AreOutcomes needs cycle step out
    → AreOutcomes (row g.edges.deps) (λ n. cycle (label_at g.labels n))
    (λ n. step (label_at g.labels n)) found
    → (n : ℕ) → n < length g.labels → found n ≡ out (label_at g.labels n)

-- The graph of what is reached from labels. (docs/PROFILE.md, "Dependencies and nodes".)
use Rattle.std.specs.Prelude.{◌≡◌, ◌↔◌, ℕ, ◌<◌, List, length, map}
use Rattle.workspace.specs.Labels.{LabelParts, same_label}
use Rattle.edges.specs.Walks.{Cyclic}
use Rattle.edges.specs.Rows.{row, IsGraph}
use Rattle.edges.specs.Edges.{EdgesView}
use Rattle.graph.specs.Same.{label_at}
use Rattle.graph.specs.Reached.{AreReached}

-- the label of each node, by number, and the edges between them
pub record GraphView : Type 0 where
  pub labels : List LabelParts
  pub edges : EdgesView

-- Its nodes are the labels that are reached, each once; each depends on the nodes of the labels
-- that its label needs, in their order; and it is cyclic where its label is.
pub record IsGraphOf (needs : LabelParts → List LabelParts) (asked : List LabelParts)
    (g : GraphView) : Type 0 where
  pub nodes : AreReached needs asked same_label g.labels
  pub graph : IsGraph g.edges.deps
  pub size : length g.edges.deps ≡ length g.labels
  pub deps : (n : ℕ) → n < length g.labels
      → map (label_at g.labels) (row g.edges.deps n) ≡ needs (label_at g.labels n)
  pub cyclic : (n : ℕ) → n < length g.labels
      → Cyclic (row g.edges.deps) n ↔ Cyclic needs (label_at g.labels n)

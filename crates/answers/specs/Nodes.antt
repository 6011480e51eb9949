-- What workers find of the nodes of a graph of labels, and what of it is told (this project's own).
use Rattle.std.specs.Prelude.{◌≡◌, ℕ, ◌<◌, List, length, map}
use Rattle.workspace.specs.Labels.{LabelParts}
use Rattle.graph.specs.Same.{label_at}
use Rattle.outcomes.specs.Workspaces.{Workspace, outcome_of}
use Rattle.targets.specs.declared.outcome.Outcome.{Outcome}
use Rattle.pool.specs.Gathered.{GatheredView, outcome_in}
use Rattle.reporting.specs.Answers.{Node}
use Rattle.label_order.specs.Ordered.{Entry}

-- what was found of each node is what becomes of its label
abbrev pub AreOutcomesOf : Workspace → List LabelParts → GatheredView Outcome → Type 0
AreOutcomesOf w labels g =
    (n : ℕ) → n < length labels → outcome_in g n ≡ outcome_of w (label_at labels n)

-- a label, with what was found of its node
abbrev pub node_of : GatheredView Outcome → Entry → Node
node_of g e = record { label = e.0; outcome = outcome_in g e.1 }

-- what the report tells of labels, in this order, each with what was found of its node
abbrev pub nodes_of : GatheredView Outcome → List Entry → List Node
nodes_of g es = map (node_of g) es

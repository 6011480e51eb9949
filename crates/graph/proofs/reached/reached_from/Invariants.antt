use Rattle.std.proofs.Common.{◌-◌, ◌≤◌, length}
use Rattle.workspace.specs.Labels.{same_label}
use Rattle.graph.specs.Same.{no_label}
use Rattle.graph.specs.Numbering.{Numbering}
use Rattle.graph.proofs.reached.reached_from.Given as goal

abbrev pub invariant-nodes : goal.invariant-nodes
invariant-nodes g l = record {
  numbered : Numbering same_label no_label (g.S.Dependencies.needs l.source) l.asked l.reached.numbers l.reached.deps;
  within : length l.reached.numbers ≤ l.limit;
}

abbrev pub decreases-nodes : goal.decreases-nodes
decreases-nodes g l = l.limit - length l.reached.deps

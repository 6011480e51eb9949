use Rattle.std.proofs.Common.{◌≡◌, take, map}
use Rattle.reporting.specs.Seen.{nodes_seen}
use Rattle.answers.specs.Nodes.{nodes_of}
use Rattle.label_order.specs.Ordered.{entry_seen}
use Rattle.answers.proofs.report.nodes_of.Given as goal

abbrev pub invariant-loop-label : goal.invariant-loop-label
invariant-loop-label l = nodes_seen l.nodes.items ≡ nodes_of l.found (map entry_seen (take l.label-index l.entries))

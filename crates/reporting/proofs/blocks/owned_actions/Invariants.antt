use Rattle.std.proofs.Common.{◌≡◌, take}
use Rattle.reporting.specs.Answers.{owned_actions}
use Rattle.reporting.specs.Seen.{nodes_seen}
use Rattle.reporting.proofs.blocks.owned_actions.Given as goal

abbrev pub invariant-loop-node : goal.invariant-loop-node
invariant-loop-node l = l.owned.items ≡ owned_actions (nodes_seen (take l.node-index l.nodes))

use Rattle.std.proofs.Common.{◌∙◌}
use Rattle.targets.specs.Steps.{is_failed}
use Rattle.reporting.specs.Seen.{node_seen}
use Rattle.reporting.proofs.BlockLemmas.{any_seen}
use Rattle.reporting.proofs.made.has_failed.Goals as goal

pub returns : goal.returns
returns c = c.any_failed.ensures ∙ any_seen node_seen (λ n. is_failed n.outcome) c.args.nodes.now

use Rattle.std.proofs.Common.{◌≡◌, drop}
use Rattle.targets.specs.Checks.{first_in_value}
use Rattle.analysis.specs.Seen.{dependencies_seen}
use Rattle.analysis.proofs.checks.first_in_labels.Given as goal

abbrev pub invariant-loop-label : goal.invariant-loop-label
invariant-loop-label l =
    first_in_value (dependencies_seen l.found.dependencies.now) l.named (drop l.label-index l.labels) ≡ first_in_value (dependencies_seen l.found.dependencies.now) l.named l.labels

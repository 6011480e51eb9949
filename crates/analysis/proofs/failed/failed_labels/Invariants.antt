use Rattle.std.proofs.Common.{◌≡◌, ◌++◌, drop}
use Rattle.targets.specs.Steps.{failed_labels}
use Rattle.analysis.specs.Seen.{dependencies_seen}
use Rattle.analysis.proofs.failed.failed_labels.Given as goal

abbrev pub invariant-loop-dependency : goal.invariant-loop-dependency
invariant-loop-dependency l =
    l.failed ++ failed_labels (dependencies_seen (drop l.dependency-index l.dependencies)) ≡ failed_labels (dependencies_seen l.dependencies)

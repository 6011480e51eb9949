use Rattle.std.proofs.Common.{◌≡◌, drop}
use Rattle.analysis.specs.Seen.{dependencies_seen}
use Rattle.analysis.specs.Unasked.{are_no_sources}
use Rattle.analysis.proofs.checks.are_no_sources.Given as goal

abbrev pub invariant-loop-dependency : goal.invariant-loop-dependency
invariant-loop-dependency l =
    are_no_sources (dependencies_seen (drop l.dependency-index l.dependencies)) ≡ are_no_sources (dependencies_seen l.dependencies)

use Rattle.std.proofs.Common.{take}
use Rattle.analysis.specs.Seen.{dependencies_seen, AreFound}
use Rattle.analysis.proofs.checks.by_label.Given as goal

abbrev pub invariant-loop-dependency : goal.invariant-loop-dependency
invariant-loop-dependency l = AreFound (dependencies_seen (take l.dependency-index l.dependencies)) l.found

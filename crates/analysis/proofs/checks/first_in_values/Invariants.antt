use Rattle.std.proofs.Common.{◌≡◌, drop}
use Rattle.targets.specs.Checks.{first_refused}
use Rattle.analysis.specs.Seen.{dependencies_seen}
use Rattle.analysis.proofs.checks.first_in_values.Given as goal

abbrev pub invariant-loop-place : goal.invariant-loop-place
invariant-loop-place l =
    first_refused (dependencies_seen l.found.dependencies.now) (drop l.place l.attributes) (drop l.place l.values) ≡ first_refused (dependencies_seen l.found.dependencies.now) l.attributes l.values

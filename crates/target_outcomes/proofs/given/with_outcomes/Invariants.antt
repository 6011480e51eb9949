use Rattle.std.proofs.Common.{◌≡◌, ◌++◌, drop, map}
use Rattle.std.specs.Prelude.{zip}
use Rattle.analysis.specs.Seen.{dependencies_seen}
use Rattle.target_outcomes.proofs.given.with_outcomes.Given as goal

abbrev pub invariant-loop-place : goal.invariant-loop-place
invariant-loop-place l =
    dependencies_seen l.given.items ++ zip (drop l.place l.needed) (map (λ r. r.now) (drop l.place l.outcomes)) ≡ zip l.needed (map (λ r. r.now) l.outcomes)

use Rattle.std.proofs.Common.{◌≡◌, []}
use Rattle.std.specs.Prelude.{replicate}
use Rattle.evaluation.proofs.beginning.no_defaults.Given as goal

abbrev pub invariant-loop : goal.invariant-loop
invariant-loop l = l.defaults ≡ replicate l.counter []

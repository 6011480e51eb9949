use Rattle.std.proofs.Common.{◌≡◌, None}
use Rattle.std.specs.Prelude.{replicate}
use Rattle.evaluation.proofs.beginning.unbound.Given as goal

abbrev pub invariant-loop : goal.invariant-loop
invariant-loop l = l.fields ≡ replicate l.counter None

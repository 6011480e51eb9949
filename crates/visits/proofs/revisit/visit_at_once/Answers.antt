use Rattle.std.proofs.Common.{subst, arith}
use Rattle.ticks.specs.Ticking.{Spends}
use Rattle.visits.proofs.ExtentLemmas.{at-once}
use Rattle.visits.proofs.revisit.visit_at_once.Goals as goal

pub returns : goal.returns
returns c =
    at-once c.spend.result c.args.left c.args.noted c.args.ticks.now c.spend.new.self c.if-not-is_whole.false
    (omega (arith, c.if-from-left.false, c.from.ensures))
    (subst (λ v. Spends c.args.ticks.now v c.spend.result c.spend.new.self) c.from-2.ensures c.spend.ensures)

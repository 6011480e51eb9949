use Rattle.std.proofs.Common.{subst}
use Rattle.analysis.specs.Seen.{HasMore}
use Rattle.analysis.specs.declared.dependency.Dependency.{Dependency}
use Rattle.analysis.proofs.Finding.{found_none, found_step}
use Rattle.analysis.proofs.checks.by_label.Goals as goal

pub loop-dependency-init : goal.loop-dependency-init
loop-dependency-init c = found_none c.new-found.result c.new-found.ensures.empty

pub loop-dependency-preserved : goal.loop-dependency-preserved
loop-dependency-preserved c =
    found_step c.args.dependencies.now c.loop-dependency.dependency-index c.dependency-item.result c.loop-dependency.found c.put.new.found c.loop-dependency-test.true c.loop-dependency.invariant
    (subst (λ (d : Dependency). HasMore d c.loop-dependency.found c.put.new.found) c.dependency-item.is c.in_ok-put.ensures)

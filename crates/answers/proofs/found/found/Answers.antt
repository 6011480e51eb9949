use Rattle.std.proofs.Common.{subst}
use Rattle.outcomes.specs.Workspaces.{step_of}
use Rattle.edges.specs.Edges.{EdgesView}
use Rattle.graph.specs.Same.{label_at}
use Rattle.pool.specs.Gathered.{HasOutcomes}
use Rattle.loader.specs.Loaded.{LoadedView}
use Rattle.targets.specs.declared.outcome.Outcome.TheVariants.{Failed}
use Rattle.targets.specs.declared.outcome.TargetFault.TheVariants.{Cycle}
use Rattle.packages.proofs.Names.{are_listed}
use Rattle.workspace_laws.specs.Workspaces.{evaluated}
use Rattle.answers.proofs.Crossing.{crosses}
use Rattle.answers.proofs.Labelled.{outcomes_found}
use Rattle.answers.proofs.found.found.Goals as goal

pub run_on-requires-send-V : goal.run_on-requires-send-V
run_on-requires-send-V g c κs within = search crosses depth 40

pub run_on-requires-sync-V : goal.run_on-requires-sync-V
run_on-requires-sync-V g c κs within = search crosses depth 40

pub run_on-requires-sync-A : goal.run_on-requires-sync-A
run_on-requires-sync-A g c κs within = search crosses depth 60 fits 20000

pub returns-in-Ok-run_on-clause-outcomes : goal.returns-in-Ok-run_on-clause-outcomes
returns-in-Ok-run_on-clause-outcomes g c = λ asked is.
    let labels = c.args.graph.now.labels in
    let there =
    subst (λ (e : EdgesView). HasOutcomes (Failed Cycle) (λ n us. step_of (evaluated c.in_ok-labels.labels.files c.in_ok-labels.labels.limit) (label_at labels n) us) (λ n us. Unit {0}) e.deps c.in-Ok-run_on.gathered)
    c.edges-edges.ensures.edges c.in-Ok-run_on.ensures.outcomes in
    outcomes_found (evaluated c.args.targets.now.files c.args.targets.now.limit) asked c.args.graph.now c.in-Ok-run_on.gathered
    (are_listed c.args.targets.now.files c.args.targets.now.limit) is
    (subst (λ (v : LoadedView). HasOutcomes (Failed Cycle) (λ n us. step_of (evaluated v.files v.limit) (label_at labels n) us) (λ n us. Unit {0}) c.args.graph.now.edges.deps c.in-Ok-run_on.gathered)
    c.in_ok-labels.ensures there)

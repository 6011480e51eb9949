use Rattle.std.proofs.Common.{◌∙◌, map}
use Rattle.graph.specs.Same.{label_at}
use Rattle.workspace_laws.specs.Workspaces.{evaluated}
use Rattle.answers.proofs.Labelled.{step_at}
use Rattle.answers.proofs.found.NodeAnalysisAnalyseOutcome.analyse_one.Goals as goal

pub returns-in-Ok : goal.returns-in-Ok
returns-in-Ok c = record {
  step = λ _.
      step_at (evaluated c.args.self.now.labels.now.files c.args.self.now.labels.now.limit) c.in-Ok.outcome c.get-label.result.now
      (label_at c.args.self.now.graph.now.labels c.args.n) (map (λ r. r.now) c.args.values.now) (c.get-label.ensures ∙ c.label.ensures) c.in-Ok.ensures;
}

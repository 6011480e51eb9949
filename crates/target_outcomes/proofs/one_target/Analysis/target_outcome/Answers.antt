use Rattle.std.proofs.Common.{◌∙◌, map, ap}
use Rattle.std.specs.Prelude.{zip}
use Rattle.analysis.specs.Seen.{dependencies_seen}
use Rattle.target_outcomes.specs.Implementing.{implement}
use Rattle.target_outcomes.proofs.Steps.{of_same}
use Rattle.target_outcomes.proofs.one_target.Analysis.target_outcome.Goals as goal

pub returns : goal.returns
returns c =
    of_same c.analysed.result (implement c.args.self.now.files c.args.self.now.limit) c.args.label.now c.args.target.now
    (dependencies_seen c.as_slice.result.now) (zip c.args.dependencies.now (map (λ r. r.now) c.args.outcomes.now))
    (ap dependencies_seen c.as_slice.ensures.value ∙ c.in_ok-dependencies.ensures) c.analysed.ensures

use Rattle.outcomes.proofs.Together.{are_outcomes}
use Rattle.outcomes.proofs.laws.outcomes_are_by_dependencies.Goals as goal

pub returns : goal.returns
returns c = are_outcomes

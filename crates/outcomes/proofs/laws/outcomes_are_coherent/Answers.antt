use Rattle.outcomes.proofs.Together.{outcomes_together, outcomes_fit}
use Rattle.outcomes.proofs.laws.outcomes_are_coherent.Goals as goal

pub returns-clause-all : goal.returns-clause-all
returns-clause-all c = outcomes_together

pub returns-clause-fits : goal.returns-clause-fits
returns-clause-fits c = outcomes_fit

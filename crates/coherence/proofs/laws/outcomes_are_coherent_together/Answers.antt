use Rattle.coherence.specs.Laws.{graph}
use Rattle.coherence.proofs.Homes.{all_together}
use Rattle.coherence.proofs.Handed.{handed_fits}
use Rattle.coherence.proofs.laws.outcomes_are_coherent_together.Goals as goal

pub returns-clause-all : goal.returns-clause-all
returns-clause-all h c = λ g each. all_together (graph g) each g.same g.decides g.listed g.finite

pub returns-clause-fits : goal.returns-clause-fits
returns-clause-fits h c = λ g each. handed_fits (graph g) (all_together (graph g) each g.same g.decides g.listed g.finite)

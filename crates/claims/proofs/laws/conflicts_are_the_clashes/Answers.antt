use Rattle.claims.proofs.ConflictLemmas.{conflicts_law}
use Rattle.claims.proofs.laws.conflicts_are_the_clashes.Goals as goal

pub returns : goal.returns
returns c = conflicts_law

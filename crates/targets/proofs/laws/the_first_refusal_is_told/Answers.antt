use Rattle.targets.proofs.Refusals.{tells_first, tells_none}
use Rattle.targets.proofs.laws.the_first_refusal_is_told.Goals as goal

pub returns-clause-first : goal.returns-clause-first
returns-clause-first c = tells_first

pub returns-clause-none : goal.returns-clause-none
returns-clause-none c = tells_none

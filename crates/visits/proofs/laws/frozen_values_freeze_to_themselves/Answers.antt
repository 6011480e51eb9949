use Rattle.visits.proofs.RevisitLemmas.{freezes-to-itself}
use Rattle.visits.proofs.laws.frozen_values_freeze_to_themselves.Goals as goal

pub returns : goal.returns
returns c = freezes-to-itself

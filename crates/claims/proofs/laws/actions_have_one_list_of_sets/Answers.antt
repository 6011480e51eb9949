use Rattle.claims.proofs.SharingLemmas.{one_list}
use Rattle.claims.proofs.laws.actions_have_one_list_of_sets.Goals as goal

pub returns : goal.returns
returns c = one_list

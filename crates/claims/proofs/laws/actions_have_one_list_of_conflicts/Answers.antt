use Rattle.claims.proofs.ClashUnique.{law-unique}
use Rattle.claims.proofs.laws.actions_have_one_list_of_conflicts.Goals as goal

pub returns : goal.returns
returns c = law-unique

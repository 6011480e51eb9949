use Rattle.claims.proofs.OwnerLemmas.{owners-are-labels}
use Rattle.claims.proofs.laws.owners_of_a_path_are_its_labels.Goals as goal

pub returns : goal.returns
returns c = owners-are-labels

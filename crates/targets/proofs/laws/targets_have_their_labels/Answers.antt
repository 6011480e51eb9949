use Rattle.targets.proofs.NamedTargets.{is_named}
use Rattle.targets.proofs.laws.targets_have_their_labels.Goals as goal

pub returns : goal.returns
returns c = is_named

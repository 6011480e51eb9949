use Rattle.answers.proofs.Plainly.{workspaces_are_coherent}
use Rattle.answers.proofs.laws.workspaces_are_coherent.Goals as goal

pub returns : goal.returns
returns c = workspaces_are_coherent

use Rattle.workspace_laws.proofs.LegalFiles.{dependencies_are_legal}
use Rattle.workspace_laws.proofs.laws.dependencies_are_legal.Goals as goal

pub returns : goal.returns
returns c = dependencies_are_legal

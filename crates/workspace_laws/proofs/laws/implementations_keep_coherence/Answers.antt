use Rattle.workspace_laws.proofs.Implemented.{calls_keep_coherence}
use Rattle.workspace_laws.proofs.laws.implementations_keep_coherence.Goals as goal

pub returns : goal.returns
returns c = calls_keep_coherence

use Rattle.board.proofs.FirstState.{first_law}
use Rattle.board.proofs.laws.first_state_is_lawful.Goals as goal

pub returns : goal.returns
returns c = first_law

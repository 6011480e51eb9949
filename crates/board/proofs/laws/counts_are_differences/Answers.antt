use Rattle.board.proofs.Differences.{differences}
use Rattle.board.proofs.laws.counts_are_differences.Goals as goal

pub returns : goal.returns
returns c = differences

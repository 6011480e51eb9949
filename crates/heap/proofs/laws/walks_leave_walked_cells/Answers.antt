use Rattle.heap.proofs.LawLemmas.{walks-stay}
use Rattle.heap.proofs.laws.walks_leave_walked_cells.Goals as goal

pub returns : goal.returns
returns c = walks-stay

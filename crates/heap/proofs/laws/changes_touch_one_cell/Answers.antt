use Rattle.heap.proofs.LawLemmas.{one-cell}
use Rattle.heap.proofs.laws.changes_touch_one_cell.Goals as goal

pub returns : goal.returns
returns c = one-cell

use Rattle.heap.proofs.LawLemmas.{walked-stay}
use Rattle.heap.proofs.laws.walked_cells_keep_their_items.Goals as goal

pub returns : goal.returns
returns c = walked-stay

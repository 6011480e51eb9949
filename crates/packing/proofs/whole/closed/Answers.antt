use Rattle.packing.specs.contracts.leaving.ReasonOrd.TheImpl.{ghosts}
use Rattle.packing.proofs.WritingLemmas.{in_order}
use Rattle.packing.proofs.whole.closed.Goals as goal

pub returns-in-Ok-clause-ordered : goal.returns-in-Ok-clause-ordered
returns-in-Ok-clause-ordered c = in_order (λ a b. ghosts.cmp a b) c.sort_unstable.new.self.items c.sort_unstable.ensures.sorted

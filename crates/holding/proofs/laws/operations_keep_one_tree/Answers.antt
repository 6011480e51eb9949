use Rattle.holding.proofs.Assembled.{operations_keep}
use Rattle.holding.proofs.laws.operations_keep_one_tree.Goals as goal

pub returns : goal.returns
returns g c = λ owner base in_work. operations_keep owner base in_work

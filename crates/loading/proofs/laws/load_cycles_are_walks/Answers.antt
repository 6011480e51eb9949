use Rattle.loading.proofs.Sources.{from_test, to_test}
use Rattle.loading.proofs.laws.load_cycles_are_walks.Goals as goal

pub returns : goal.returns
returns g c = λ w p. (from_test w p, to_test w p)

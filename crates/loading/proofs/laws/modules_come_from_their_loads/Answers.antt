use Rattle.loading.proofs.ByLoads.{by_loads, only_by_loads}
use Rattle.loading.proofs.Sources.{loads_are_lower}
use Rattle.loading.proofs.laws.modules_come_from_their_loads.Goals as goal

pub returns-clause-lower : goal.returns-clause-lower
returns-clause-lower g c = λ w p. by_loads w p

pub returns-clause-only : goal.returns-clause-only
returns-clause-only g c = λ w f is p. only_by_loads w f is p

pub returns-clause-loads : goal.returns-clause-loads
returns-clause-loads g c = λ w p q off has. loads_are_lower w p q off has

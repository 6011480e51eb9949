use Rattle.loading.proofs.CycleLines.{cycle_stands}
use Rattle.loading.proofs.laws.load_cycles_stand_where_walks_begin.Goals as goal

pub returns : goal.returns
returns g c = λ w p around. cycle_stands w p around

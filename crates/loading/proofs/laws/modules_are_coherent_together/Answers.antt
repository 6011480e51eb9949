use Rattle.loading.proofs.Kept.{modules_together}
use Rattle.loading.proofs.laws.modules_are_coherent_together.Goals as goal

pub returns : goal.returns
returns g c = λ w s runs. modules_together w s runs

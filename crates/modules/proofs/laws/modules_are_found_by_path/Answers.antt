use Rattle.modules.proofs.Outcomes.{are_found}
use Rattle.modules.proofs.laws.modules_are_found_by_path.Goals as goal

pub returns : goal.returns
returns g c = λ w q. are_found w q

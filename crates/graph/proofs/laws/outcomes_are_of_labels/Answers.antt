use Rattle.graph.proofs.Outcomes.{of_labels}
use Rattle.graph.proofs.laws.outcomes_are_of_labels.Goals as goal

pub returns : goal.returns
returns g c = λ needs asked graph cycle step is out found are by n low. of_labels needs asked graph cycle step is out found are by n low

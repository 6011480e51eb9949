use Rattle.targets.proofs.Declared.{is_declared}
use Rattle.targets.proofs.laws.calls_declare_new_targets.Goals as goal

pub returns : goal.returns
returns c = is_declared

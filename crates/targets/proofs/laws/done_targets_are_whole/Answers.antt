use Rattle.targets.proofs.Whole.{is_whole}
use Rattle.targets.proofs.laws.done_targets_are_whole.Goals as goal

pub returns : goal.returns
returns c = λ implement l t ds ts actions. is_whole l ts actions implement t ds

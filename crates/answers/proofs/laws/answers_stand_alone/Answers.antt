use Rattle.answers.proofs.Alone.{answers_stand_alone}
use Rattle.answers.proofs.laws.answers_stand_alone.Goals as goal

pub returns : goal.returns
returns c = answers_stand_alone

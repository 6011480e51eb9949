use Rattle.answers.proofs.More.{more_hides_nothing}
use Rattle.answers.proofs.OneAnswer.{others_change_nothing}
use Rattle.answers.proofs.laws.others_change_nothing.Goals as goal

pub returns : goal.returns
returns c = record { same = others_change_nothing; hidden = more_hides_nothing }

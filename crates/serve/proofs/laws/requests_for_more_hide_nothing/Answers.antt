use Rattle.serve.proofs.OneAnswer.{requests_for_more_hide_nothing}
use Rattle.serve.proofs.laws.requests_for_more_hide_nothing.Goals as goal

pub returns : goal.returns
returns c = requests_for_more_hide_nothing

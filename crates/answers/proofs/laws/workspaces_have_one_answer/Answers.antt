use Rattle.answers.proofs.OneAnswer.{workspaces_have_one_answer}
use Rattle.answers.proofs.laws.workspaces_have_one_answer.Goals as goal

pub returns : goal.returns
returns c = workspaces_have_one_answer

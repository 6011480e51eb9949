use Rattle.serve.proofs.OneAnswer.{inputs_have_one_answer, requests_have_one_answer}
use Rattle.serve.proofs.laws.requests_have_one_answer.Goals as goal

pub returns : goal.returns
returns c = record { files = requests_have_one_answer; input = inputs_have_one_answer }

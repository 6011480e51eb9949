use Rattle.serve.proofs.OneAnswer.{answers_are_not_too_many, answers_are_one, requests_have_an_answer}
use Rattle.serve.proofs.laws.requests_have_an_answer.Goals as goal

pub returns : goal.returns
returns c = record { some = requests_have_an_answer; one = answers_are_one; apart = answers_are_not_too_many }

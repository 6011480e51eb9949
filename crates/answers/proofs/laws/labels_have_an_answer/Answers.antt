use Rattle.answers.proofs.Exists.{labels_have_an_answer, too_many_are_counted}
use Rattle.answers.proofs.laws.labels_have_an_answer.Goals as goal

pub returns : goal.returns
returns c = record { some = labels_have_an_answer; counted = too_many_are_counted }

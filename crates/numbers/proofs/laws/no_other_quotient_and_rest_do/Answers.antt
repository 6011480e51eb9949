use Rattle.numbers.proofs.Floors.{divided_once}
use Rattle.numbers.proofs.laws.no_other_quotient_and_rest_do.Goals as goal

pub returns : goal.returns
returns c = divided_once

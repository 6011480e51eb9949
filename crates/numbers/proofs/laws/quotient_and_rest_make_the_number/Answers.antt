use Rattle.numbers.proofs.Floors.{divided}
use Rattle.numbers.proofs.laws.quotient_and_rest_make_the_number.Goals as goal

pub returns : goal.returns
returns c = divided

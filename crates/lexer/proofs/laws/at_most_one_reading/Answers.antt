use Rattle.lexer.proofs.ReadingLaws.{same_reading}
use Rattle.lexer.proofs.laws.at_most_one_reading.Goals as goal

pub returns : goal.returns
returns c = same_reading

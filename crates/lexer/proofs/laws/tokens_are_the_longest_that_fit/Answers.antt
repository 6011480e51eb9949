use Rattle.lexer.proofs.FitsLaws.{begins_longest, longest_begins, nothing_fits}
use Rattle.lexer.proofs.PartLaws.{nothing_begins}
use Rattle.lexer.proofs.laws.tokens_are_the_longest_that_fit.Goals as goal

pub returns-clause-longest : goal.returns-clause-longest
returns-clause-longest c b bs t n = (begins_longest b bs t n, longest_begins b bs t n)

pub returns-clause-none : goal.returns-clause-none
returns-clause-none c = nothing_fits

pub returns-clause-only : goal.returns-clause-only
returns-clause-only c = nothing_begins

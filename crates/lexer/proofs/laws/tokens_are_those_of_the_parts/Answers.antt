use Rattle.lexer.proofs.ConsistLaws.{tokens_are, tokens_as}
use Rattle.lexer.proofs.ReadingLaws.{same_tokens}
use Rattle.lexer.proofs.laws.tokens_are_those_of_the_parts.Goals as goal

pub returns-clause-same : goal.returns-clause-same
returns-clause-same c text tokens = (tokens_are text tokens, tokens_as text tokens)

pub returns-clause-one : goal.returns-clause-one
returns-clause-one c = same_tokens

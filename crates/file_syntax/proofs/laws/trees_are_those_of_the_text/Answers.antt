use Rattle.file_syntax.proofs.FileLaws.{syntax_is, syntax_as}
use Rattle.file_syntax.proofs.laws.trees_are_those_of_the_text.Goals as goal

pub returns : goal.returns
returns c text kind tree = (syntax_is text kind tree, syntax_as text kind tree)

use Rattle.file_syntax.proofs.FileLaws.{same_tree}
use Rattle.file_syntax.proofs.laws.texts_have_one_tree.Goals as goal

pub returns : goal.returns
returns c = same_tree

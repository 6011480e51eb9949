use Rattle.grammar.proofs.BuiltLaws.{file_built}
use Rattle.grammar.proofs.block_laws.lines_are_put_into_blocks.Goals as goal

pub returns : goal.returns
returns c = file_built

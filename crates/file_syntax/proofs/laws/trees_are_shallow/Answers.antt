use Rattle.std.proofs.Common.{true, false}
use Rattle.grammar.proofs.BareLaws.{block_shallow}
use Rattle.file_syntax.proofs.laws.trees_are_shallow.Goals as goal

pub returns : goal.returns
returns c text kind tree h = block_shallow _ false true 0 tree h.spelled.is_block

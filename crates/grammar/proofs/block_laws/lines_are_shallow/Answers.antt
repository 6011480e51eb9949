use Rattle.std.proofs.Common.{true, false}
use Rattle.grammar.proofs.BareLaws.{depth_is, block_shallow}
use Rattle.grammar.proofs.block_laws.lines_are_shallow.Goals as goal

pub returns-clause-depth : goal.returns-clause-depth
returns-clause-depth c = depth_is

pub returns-clause-limit : goal.returns-clause-limit
returns-clause-limit c p lines tree h = block_shallow p false true 0 tree h.is_block

use Rattle.std.proofs.Common.{◌∙◌, sym}
use Rattle.frames.specs.Kept.{defaults_seen}
use Rattle.call_stack.proofs.Parameters.{default_none, default_some}
use Rattle.call_stack.proofs.filling.default_of.Goals as goal

pub returns-then-index-without : goal.returns-then-index-without
returns-then-index-without c = sym (default_none c.args.without c.args.index (defaults_seen c.args.defaults) c.if-index-without.true)

pub returns-else-index-without : goal.returns-else-index-without
returns-else-index-without c = c.get.ensures ∙ sym (default_some c.args.without c.args.index (defaults_seen c.args.defaults) c.if-index-without.false)

use Rattle.std.proofs.Common.{◌≡◌, drop}
use Rattle.meaning.specs.Entry.{defaults_of, filled, paired}
use Rattle.call_stack.specs.Filled.{behind}
use Rattle.frames.specs.Kept.{defaults_seen}
use Rattle.call_stack.proofs.filling.fill.Given as goal

abbrev pub invariant-loop-index : goal.invariant-loop-index
invariant-loop-index l =
    behind l.slots (filled (drop l.index l.params) l.items (paired l.names l.named) (drop l.index (defaults_of l.params (defaults_seen l.defaults))))
    ≡ filled l.params l.fn.items (paired l.names l.named) (defaults_of l.params (defaults_seen l.defaults))

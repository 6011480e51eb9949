use Rattle.std.proofs.Common.{◌≡◌, length}
use Rattle.frames.specs.Kept.{defaults_seen}
use Rattle.call_stack.specs.Filled.{behind, rest_filled}
use Rattle.call_stack.proofs.filling.fill_defaults.Given as goal

abbrev pub invariant-loop-index : goal.invariant-loop-index
invariant-loop-index l =
    behind l.slots (rest_filled l.params l.index (defaults_seen l.defaults))
    ≡ behind l.fn.slots (rest_filled l.params (length l.fn.slots) (defaults_seen l.defaults))

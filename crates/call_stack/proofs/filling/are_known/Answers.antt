use Rattle.std.proofs.Common.{◌∙◌, sym}
use Rattle.call_stack.proofs.Named.{known_taken}
use Rattle.call_stack.proofs.filling.are_known.Goals as goal

pub returns : goal.returns
returns c = c.in_ok-known.ensures ∙ sym (known_taken c.args.params.now c.args.names.now c.args.named.now c.min-count.result c.min-count.ensures)

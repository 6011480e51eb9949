use Rattle.std.proofs.Common.{◌≡◌, take}
use Rattle.edges.specs.Orders.{replaced}
use Rattle.edges.proofs.numbering.replace_all.Given as goal

abbrev pub invariant-loop-node : goal.invariant-loop-node
invariant-loop-node l = l.deps ≡ replaced l.given (take l.node-index l.order) l.places

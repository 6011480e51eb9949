use Rattle.std.proofs.Common.{◌≡◌}
use Rattle.shelves.proofs.steal.Other.steal.Given as goal

abbrev pub invariant-loop : goal.invariant-loop
invariant-loop l = l.self.nodes ≡ l.initial.self.nodes

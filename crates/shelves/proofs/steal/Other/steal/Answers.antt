use Rattle.shelves.proofs.Numbers.{takes}
use Rattle.shelves.proofs.steal.Other.steal.Goals as goal

pub steal_as-requires-clause-takes : goal.steal_as-requires-clause-takes
steal_as-requires-clause-takes c = takes _ c.loop.self.nodes _ 1 c.loop.self.knows

use Rattle.shelves.proofs.Numbers.{takes, pops}
use Rattle.shelves.proofs.steal.StealShelf.take_from_deques.Goals as goal

pub pop_as-requires-clause-fifo : goal.pop_as-requires-clause-fifo
pop_as-requires-clause-fifo c = let s = c.self.inside in λ _. takes _ s.nodes _ 1 s.knows

pub pop_as-requires-clause-lifo : goal.pop_as-requires-clause-lifo
pop_as-requires-clause-lifo c = let s = c.self.inside in λ _. pops _ s.nodes _ s.knows

use Rattle.std.proofs.Common.{◌≡◌, length}
use Rattle.std.specs.List.{All}
use Rattle.shelves.proofs.shelf.LockShelf.ends_of.Given as goal

abbrev pub invariant-loop : goal.invariant-loop
invariant-loop g l = (length l.ends.items ≡ l.counter) × All (λ e. e ≡ l.nodes) l.ends.items

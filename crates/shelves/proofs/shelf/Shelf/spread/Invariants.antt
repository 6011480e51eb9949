use Rattle.std.proofs.Common.{◌≡◌, ◌<◌, vec_len}
use Rattle.std.specs.List.{All}
use Rattle.shelves.proofs.shelf.Shelf.spread.Given as goal

abbrev pub invariant-loop-node : goal.invariant-loop-node
invariant-loop-node g l = record {
  size : vec_len l.ends ≡ vec_len l.fn.ends;
  next : l.next < vec_len l.ends;
  shelves : All (λ e. g.Self.Shelf.nodes e ≡ l.count) l.ends.items;
}

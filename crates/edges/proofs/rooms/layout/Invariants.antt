use Rattle.std.proofs.Common.{◌≡◌, map}
use Rattle.std.specs.List.{range_with_len}
use Rattle.edges.specs.Rooms.{sum_to}
use Rattle.edges.proofs.rooms.layout.Given as goal

abbrev pub invariant-loop-size : goal.invariant-loop-size
invariant-loop-size l = record {
  starts_are : l.starts.items ≡ map (sum_to l.sizes) (range_with_len 0 l.size-index);
  ends_are : l.ends.items ≡ map (sum_to l.sizes) (range_with_len 0 l.size-index);
  end_is : l.end ≡ sum_to l.sizes l.size-index;
}

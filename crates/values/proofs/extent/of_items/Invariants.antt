use Rattle.std.proofs.Common.{length, drop}
use Rattle.std.specs.Iterator.Adapters.{rev_source}
use Rattle.std.specs.Slice.Iter.{iter_rest}
use Rattle.values.specs.Tree.{trees}
use Rattle.ticks.specs.Extents.{IsExtent}
use Rattle.values.specs.Extents.{trees_measure}
use Rattle.values.proofs.ExtentLemmas.{AreLeft}
use Rattle.values.proofs.extent.of_items.Given as goal

abbrev pub invariant-loop-item : goal.invariant-loop-item
invariant-loop-item l =
    let left = iter_rest (rev_source l.item-iterator) in
    record {
      rest : AreLeft l.items left;
      behind : IsExtent l.extent (trees_measure (trees (drop (length left) l.items)));
    }

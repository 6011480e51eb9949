use Rattle.std.proofs.Common.{length, drop}
use Rattle.std.specs.Iterator.Adapters.{rev_source}
use Rattle.std.specs.Slice.Iter.{iter_rest}
use Rattle.ticks.specs.Extents.{IsExtent}
use Rattle.values.specs.Extents.{values_measure}
use Rattle.values.proofs.ExtentLemmas.{AreLeft}
use Rattle.values.proofs.extent.of_entries.Given as goal

abbrev pub invariant-loop-value : goal.invariant-loop-value
invariant-loop-value l =
    let left = iter_rest (rev_source l.value-iterator) in
    record {
      rest : AreLeft l.values left;
      behind : IsExtent l.extent (values_measure (drop (length left) l.values));
    }

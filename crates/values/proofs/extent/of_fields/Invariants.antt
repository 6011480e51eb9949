use Rattle.std.proofs.Common.{length, drop}
use Rattle.std.specs.Iterator.Adapters.{rev_source}
use Rattle.std.specs.Slice.Iter.{iter_rest}
use Rattle.values.specs.Tree.{slots}
use Rattle.ticks.specs.Extents.{IsExtent}
use Rattle.values.specs.Extents.{slots_measure}
use Rattle.values.proofs.ExtentLemmas.{AreLeft}
use Rattle.values.proofs.extent.of_fields.Given as goal

abbrev pub invariant-loop-field : goal.invariant-loop-field
invariant-loop-field l =
    let left = iter_rest (rev_source l.field-iterator) in
    record {
      rest : AreLeft l.fields left;
      behind : IsExtent l.extent (slots_measure (slots (drop (length left) l.fields)));
    }

use Rattle.std.proofs.Common.{◌≡◌, ◌++◌, length, map}
use Rattle.std.specs.Iterator.Adapters.{zip_first, zip_second}
use Rattle.std.specs.Slice.Iter.{iter_rest}
use Rattle.std.specs.Vec.Iter.{into_iter_items, into_iter_len}
use Rattle.modules.specs.Modules.{value_in, faults_in}
use Rattle.modules.proofs.sorting.sorted_out.Given as goal

-- what is left of the paths, and of what they came to
abbrev pub invariant-loop-path : goal.invariant-loop-path
invariant-loop-path g l =
    let paths = iter_rest (zip_first l.path-iterator) in
    let left = zip_second l.path-iterator in
    record {
      size : length (into_iter_items left) ≡ length paths;
      long : into_iter_len left ≡ length (into_iter_items left);
      values : l.values.items ++ map value_in (into_iter_items left) ≡ map value_in l.fn.done.items;
      faults : l.faults.items ++ faults_in paths (into_iter_items left) ≡ faults_in l.paths l.fn.done.items;
    }

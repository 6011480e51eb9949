use Rattle.std.proofs.Common.{◌≡◌, ◌++◌, drop, length}
use Rattle.std.specs.Iterator.Adapters.{enumerate_count, enumerate_source, rev_source}
use Rattle.std.specs.Slice.Iter.{iter_rest}
use Rattle.analysis.specs.Seen.{dependencies_seen}
use Rattle.contexts.proofs.Placing.{ArePlacedFrom}
use Rattle.contexts.proofs.dependencies.places.Given as goal

-- those that are left stand before the others, which have their places
abbrev pub invariant-loop-place : goal.invariant-loop-place
invariant-loop-place l =
    let left = rev_source l.place-iterator in
    let rest = iter_rest (enumerate_source left) in
    record {
      numbered : enumerate_count left ≡ 0;
      front : rest ++ drop (length rest) l.all ≡ l.all;
      placed : ArePlacedFrom (length rest) (dependencies_seen l.all) l.places;
    }

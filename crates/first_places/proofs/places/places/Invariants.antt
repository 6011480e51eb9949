use Rattle.std.proofs.Common.{◌≡◌, ◌++◌, drop, length}
use Rattle.std.specs.Iterator.Adapters.{enumerate_count, enumerate_source, rev_source}
use Rattle.std.specs.Slice.Iter.{iter_rest}
use Rattle.first_places.proofs.Placing.{ArePlacedFrom}
use Rattle.first_places.proofs.places.places.Given as goal

-- those that are left stand before the others, which have their places
abbrev pub invariant-loop-place : goal.invariant-loop-place
invariant-loop-place l =
    let rest = rev_source l.place-iterator in
    let left = iter_rest (enumerate_source rest) in
    record {
      numbered : enumerate_count rest ≡ 0;
      front : left ++ drop (length left) l.names ≡ l.names;
      placed : ArePlacedFrom (λ q. q.now) (length left) l.names l.places;
    }

use Rattle.std.proofs.Common.{◌≡◌}
use Rattle.std.specs.Iterator.Adapters.{zip_first, zip_second}
use Rattle.std.specs.Slice.Iter.{iter_rest}
use Rattle.calls.specs.Pairs.{tuples_behind, Grown}
use Rattle.calls.proofs.pairs.put_tuples.Given as goal

abbrev pub invariant-loop-key : goal.invariant-loop-key
invariant-loop-key l =
    (tuples_behind l.tuples (iter_rest (zip_first l.key-iterator)) (iter_rest (zip_second l.key-iterator)) l.state ≡ tuples_behind l.initial.tuples l.keys l.values l.initial.state)
    × Grown l.initial.state l.state

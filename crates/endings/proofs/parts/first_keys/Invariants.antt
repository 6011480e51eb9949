use Rattle.std.proofs.Common.{◌≡◌, ◌+◌, ◌++◌, length}
use Rattle.std.specs.Iterator.Adapters.{take_source, take_count}
use Rattle.std.specs.Slice.Iter.{iter_rest}
use Rattle.endings.proofs.parts.first_keys.Given as goal

abbrev pub invariant-loop-key : goal.invariant-loop-key
invariant-loop-key l = record {
  keys : l.first.keys ++ iter_rest (take_source l.key-iterator) ≡ l.keys.keys;
  count : length l.first.keys + take_count l.key-iterator ≡ l.count;
}

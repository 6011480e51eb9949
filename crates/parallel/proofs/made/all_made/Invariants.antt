use Rattle.std.proofs.Common.{◌≡◌, ◌+◌, length, drop}
use Rattle.parallel.specs.Made.{AreGiven}
use Rattle.parallel.proofs.made.all_made.Given as goal

abbrev pub invariant-loop-slot : goal.invariant-loop-slot
invariant-loop-slot g l = record {
  rest : l.slot-iterator.rest.items ≡ drop (length l.all.items) l.fn.slots.items;
  len : length l.all.items + length l.slot-iterator.rest.items ≡ length l.fn.slots.items;
  each : AreGiven g.F.Fn l.f l.all.items;
}

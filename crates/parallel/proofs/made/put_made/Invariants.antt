use Rattle.std.proofs.Common.{◌≡◌, length}
use Rattle.parallel.specs.Made.{AreMade, FitSlots}
use Rattle.parallel.proofs.made.put_made.Given as goal

abbrev pub invariant-loop-place : goal.invariant-loop-place
invariant-loop-place g l = record {
  len : length l.slots ≡ length l.fn.slots;
  slots : FitSlots g.F.Fn l.f l.slots;
  rest : AreMade g.F.Fn l.f l.place-iterator.rest.items;
}

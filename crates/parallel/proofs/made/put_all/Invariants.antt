use Rattle.std.proofs.Common.{◌≡◌, length}
use Rattle.parallel.specs.Made.{AreListsMade, FitSlots}
use Rattle.parallel.proofs.made.put_all.Given as goal

abbrev pub invariant-loop-list : goal.invariant-loop-list
invariant-loop-list g l = record {
  len : length l.slots ≡ length l.fn.slots;
  slots : FitSlots g.F.Fn l.f l.slots;
  rest : AreListsMade g.F.Fn l.f l.list-iterator.rest.items;
}

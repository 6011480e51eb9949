use Rattle.std.proofs.Common.{◌≡◌, [], length}
use Rattle.std.specs.Prelude.{drop}
use Rattle.frames.specs.Popped.{popped}
use Rattle.frames.proofs.taking.take_items.Given as goal

abbrev pub invariant-loop-place : goal.invariant-loop-place
invariant-loop-place l =
    (length l.items ≡ l.count) × (popped l.count [] l.fn.values ≡ popped l.place (drop l.place l.items) l.values)

use Rattle.std.proofs.Common.{◌≡◌, drop}
use Rattle.depsets.specs.Rose.{label}
use Rattle.depsets.specs.Walker.{walk_of}
use Rattle.depsets.specs.Listed.{took}
use Rattle.depsets.proofs.listing.Walker.take_own.Given as goal

abbrev pub invariant-loop-i : goal.invariant-loop-i
invariant-loop-i l =
    took (drop l.i l.direct) (label l.d) (walk_of l.self) ≡ took l.direct (label l.d) (walk_of l.initial.self)

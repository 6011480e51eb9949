use Rattle.std.proofs.Common.{◌≡◌, None, drop}
use Rattle.std.specs.Prelude.{option_copied}
use Rattle.claims.specs.Sets.{some_twin}
use Rattle.claims.proofs.sets.has_twins.Given as goal

abbrev pub invariant-loop-member : goal.invariant-loop-member
invariant-loop-member l = some_twin (option_copied l.last) (drop l.member-index l.members) ≡ some_twin None l.members

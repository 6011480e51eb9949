use Rattle.std.proofs.Common.{◌≡◌, None, drop}
use Rattle.std.specs.Prelude.{option_copied}
use Rattle.claims.specs.Members.{some_clash}
use Rattle.claims.proofs.clashes.has_clash.Given as goal

abbrev pub invariant-loop-member : goal.invariant-loop-member
invariant-loop-member l = some_clash l.leaders (option_copied l.last) (drop l.member-index l.members) ≡ some_clash l.leaders None l.members

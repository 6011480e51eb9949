use Rattle.std.proofs.Common.{◌≡◌, take}
use Rattle.claims.proofs.members.Members.sorted.Given as goal

abbrev pub invariant-loop-member : goal.invariant-loop-member
invariant-loop-member l = l.items.items ≡ take l.member-index l.members

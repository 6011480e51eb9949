use Rattle.std.proofs.Common.{◌≡◌, map, take}
use Rattle.claims.specs.Members.{label_of}
use Rattle.claims.proofs.members.labels_of.Given as goal

abbrev pub invariant-loop-member : goal.invariant-loop-member
invariant-loop-member l = l.labels ≡ map label_of (take l.member-index l.members)

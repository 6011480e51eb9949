use Rattle.std.proofs.Common.{◌≡◌, map, take}
use Rattle.claims.specs.Members.{place_of}
use Rattle.claims.proofs.members.places_of.Given as goal

abbrev pub invariant-loop-member : goal.invariant-loop-member
invariant-loop-member l = l.items.items ≡ map place_of (take l.member-index l.members)

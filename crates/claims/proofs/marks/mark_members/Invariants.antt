use Rattle.std.proofs.Common.{◌≡◌, drop}
use Rattle.claims.specs.Marks.{marked_by}
use Rattle.claims.proofs.marks.mark_members.Given as goal

abbrev pub invariant-loop-member : goal.invariant-loop-member
invariant-loop-member l = marked_by l.marks.items (drop l.member-index l.members) ≡ marked_by l.fn.marks.items l.members

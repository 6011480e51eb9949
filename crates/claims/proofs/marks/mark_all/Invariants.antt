use Rattle.std.proofs.Common.{◌≡◌, drop}
use Rattle.claims.specs.Marks.{marked_all}
use Rattle.claims.proofs.marks.mark_all.Given as goal

abbrev pub invariant-loop-common : goal.invariant-loop-common
invariant-loop-common l = marked_all l.marks.items (drop l.common-index l.commons) ≡ marked_all l.fn.marks.items l.commons

use Rattle.std.proofs.Common.{sym, subst}
use Rattle.values.specs.Extents.{IsNoted, parts_measure}
use Rattle.values.specs.View.{node_branch}
use Rattle.values.proofs.frozen.Branch.of.Goals as goal

pub invariant_of-result : goal.invariant_of-result
invariant_of-result c =
    subst IsNoted (sym c.in_ok-parts.ensures.ok) (record {
      paired = c.requires.paired;
      noted = c.in-Some.ensures.1 (parts_measure (node_branch c.args.node)) c.requires.noted;
      bounded = c.in-Some.ensures.0;
    })

use Rattle.std.proofs.Common.{◌≡◌, ◌+◌, ◌*◌, drop}
use Rattle.depsets.specs.Rose.{weight}
use Rattle.depsets.specs.Walker.{walk_of}
use Rattle.depsets.specs.Listed.{visited_all}
use Rattle.depsets.proofs.listing.Walker.+walk.Given as goal

abbrev pub invariant-visit_children-loop-i : goal.invariant-visit_children-loop-i
invariant-visit_children-loop-i l =
    visited_all l.preorder (drop l.i l.children) (walk_of l.self)
    ≡ visited_all l.preorder l.children (walk_of l.initial.self)

abbrev pub decreases-visit : goal.decreases-visit
decreases-visit l = 4 * weight l.d.now + 3

abbrev pub decreases-visit_new : goal.decreases-visit_new
decreases-visit_new l = 4 * weight l.d.now + 2

abbrev pub decreases-visit_inside : goal.decreases-visit_inside
decreases-visit_inside l = 4 * weight l.d.now + 1

abbrev pub decreases-visit_children : goal.decreases-visit_children
decreases-visit_children l = 4 * weight l.d.now

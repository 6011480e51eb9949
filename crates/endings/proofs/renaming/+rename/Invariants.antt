use Rattle.std.proofs.Common.{◌≡◌, ◌+◌, ◌*◌, false, [], ◌∷◌, map, take}
use Rattle.values.specs.Tree.{trees, slots, weight, branch_weight, weights, slot_weights}
use Rattle.values.specs.View.{node_branch}
use Rattle.evaluation.specs.Naming.{named, slot_named}
use Rattle.endings.proofs.renaming.+rename.Given as goal

abbrev pub invariant-rename_all-loop-tree : goal.invariant-rename_all-loop-tree
invariant-rename_all-loop-tree l =
    (l.items.items ≡ map (named l.naming) (take l.tree-index l.trees))
    × (l.changed ≡ false → map (named l.naming) (take l.tree-index l.trees) ≡ take l.tree-index l.trees)

abbrev pub invariant-rename_fields-loop-slot : goal.invariant-rename_fields-loop-slot
invariant-rename_fields-loop-slot l =
    (l.items.items ≡ map (slot_named l.naming) (take l.slot-index l.fields))
    × (l.changed ≡ false → map (slot_named l.naming) (take l.slot-index l.fields) ≡ take l.slot-index l.fields)

abbrev pub decreases-rename : goal.decreases-rename
decreases-rename l = 4 * weight l.tree.now + 1

abbrev pub decreases-rename_node : goal.decreases-rename_node
decreases-rename_node l = 4 * branch_weight (node_branch l.node.now) + 1

abbrev pub decreases-rename_all : goal.decreases-rename_all
decreases-rename_all l = 4 * weights (trees l.trees.now) + 3

abbrev pub decreases-rename_fields : goal.decreases-rename_fields
decreases-rename_fields l = 4 * slot_weights (slots l.fields.now) + 3

abbrev pub decreases-rename_slot : goal.decreases-rename_slot
decreases-rename_slot l = 4 * slot_weights (slots (l.slot.now ∷ [])) + 2

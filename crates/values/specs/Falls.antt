-- Each part of a frozen value weighs less than it. (This project's own.)
use Rattle.std.specs.Prelude.{◌≡◌, ◌+◌, ◌≤◌, max, List, [], ◌∷◌, length, Option, Some, None}
use Rattle.std.proofs.Common.{arith}
use denote.Param.Weighed.{most}
use Rattle.values.specs.Tree.{Tree, weight, branch_weight, weights, pair_weights, slot_weights}
use Rattle.values.specs.Tree.{trees, pairs, slots}
use Rattle.values.specs.declared.frozen.Held.{Held}
use Rattle.values.specs.declared.frozen.Held.TheVariants.{Key as key, Leaf, Branch}
use Rattle.values.specs.declared.frozen.Node.{Node}
use Rattle.values.specs.declared.frozen.Node.TheVariants.{List as list, Tuple, Dict, Instance}
use Rattle.values.specs.View.{FrozenTree, tree_of, node_branch, IsPaired}
use Rattle.values.specs.Extents.{IsNoted}
use Rattle.values.specs.declared.frozen.Parts.{Parts}
use Rattle.values.specs.declared.frozen.Branch.TheDeep.{deep-Held, deep-Node, deep-Parts}
use Rattle.values.specs.declared.frozen.Branch.TheShapes.{weighed-Node-Instance-1-at-1}

module _ {L K P : Type 0} where
  -- no item of a list or a tuple weighs more than all of them together
  most_le-weights : (ts : List (Tree L K P)) → most (λ t. weight t + 1) ts ≤ weights (trees ts) + 1
  most_le-weights [] = omega arith
  most_le-weights (t ∷ ts) = omega (arith, most_le-weights ts)

  -- the same of the values of a dict
  most_le-pairs : (ks : List K) (ts : List (Tree L K P)) → length ks ≡ length ts
      → most (λ t. weight t + 1) ts ≤ pair_weights (pairs ks ts) + 1
  most_le-pairs [] [] h = omega arith
  most_le-pairs [] (t ∷ ts) h = absurd (omega arith)
  most_le-pairs (k ∷ ks) [] h = absurd (omega arith)
  most_le-pairs (k ∷ ks) (t ∷ ts) h =
      let rest = most_le-pairs ks ts (omega arith) in omega (arith, rest)

-- the same of the fields of an instance
most_le-slots : (os : List (Option FrozenTree))
    → most (λ o. weighed-Node-Instance-1-at-1.weight FrozenTree (λ t. weight t + 1) o) os
    ≤ slot_weights (slots os) + 1
most_le-slots [] = omega arith
most_le-slots (None ∷ os) = omega (arith, most_le-slots os)
most_le-slots (Some t ∷ os) = omega (arith, most_le-slots os)

-- what is measured of a node's parts is at most the weight of its tree: so calls over the parts of
-- a frozen value end
pub branch_deep_le-weight : (n : Node) → IsPaired n
    → max (deep-Node n) 0 ≤ branch_weight (node_branch n)
branch_deep_le-weight (list v) h = omega (arith, most_le-weights v.items)
branch_deep_le-weight (Tuple v) h = omega (arith, most_le-weights v.items)
branch_deep_le-weight (Dict ks v) h = omega (arith, most_le-pairs ks.value.keys v.items h)
branch_deep_le-weight (Instance p v) h = omega (arith, most_le-slots v.items)

-- the same of a node with what is noted of it
pub parts_deep_le-weight : (p : Parts) → IsNoted p
    → max (deep-Parts p) 0 ≤ branch_weight (node_branch p.node)
parts_deep_le-weight p h = omega (arith, branch_deep_le-weight p.node h.paired)

-- the same of a frozen value
pub deep_le-weight : (h : Held) → max (deep-Held h) 0 ≤ weight (tree_of h)
deep_le-weight (key k) = omega arith
deep_le-weight (Leaf l) = omega arith
deep_le-weight (Branch b) = omega arith

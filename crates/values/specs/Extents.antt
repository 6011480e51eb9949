-- What a visit of a frozen value finds, by its parts. A key of a dict is a value of its own, beside
-- the key's value; the name of a field is none. (This project's own words; the specification says
-- only that freezing is deep.)
use Rattle.std.specs.Prelude.{◌≤◌, true, List, [], ◌∷◌}
use Rattle.ticks.specs.Extents.{Measure, IsExtent, above, beside, no_values, one}
use Rattle.values.specs.Tree.{Trees, Pairs, Slots, key, leaf, branch, list, tuple, dict, instance}
use Rattle.values.specs.Tree.{none, more, stop, pair, end, missing, given}
use Rattle.values.specs.View.{FrozenTree, FrozenBranch, IsPaired, node_branch}
use Rattle.values.specs.declared.frozen.Parts.{Parts}
use Rattle.leaves.specs.Leaves.{can_freeze}
use Rattle.leaves.specs.declared.leaf.Leaf.{Leaf}
use Rattle.keys.specs.declared.key.Key.{Key}
use Rattle.leaves.specs.declared.leaf.Provider.{Provider}

abbrev mutual
  -- what a visit of a frozen value finds
  pub measure : FrozenTree → Measure
  measure (key k) = one true
  measure (leaf l) = one (can_freeze l)
  measure (branch b) = above (parts_measure b)

  -- what a visit finds in the parts of a list, a tuple, a dict or an instance, without the value
  -- itself
  pub parts_measure : FrozenBranch → Measure
  parts_measure (list ts) = trees_measure ts
  parts_measure (tuple ts) = trees_measure ts
  parts_measure (dict ps) = pairs_measure ps
  parts_measure (instance p ss) = slots_measure ss

  -- what a visit finds in the items of a list or a tuple
  pub trees_measure : Trees Leaf Key Provider → Measure
  trees_measure none = no_values
  trees_measure (more t ts) = beside (measure t) (trees_measure ts)

  -- what a visit finds in the entries of a dict: each key is a value beside that of the key
  pub pairs_measure : Pairs Leaf Key Provider → Measure
  pairs_measure stop = no_values
  pairs_measure (pair k t ps) = beside (one true) (beside (measure t) (pairs_measure ps))

  -- what a visit finds in the fields of an instance; one that wasn't given counts for nothing
  pub slots_measure : Slots Leaf Key Provider → Measure
  slots_measure end = no_values
  slots_measure (missing ss) = slots_measure ss
  slots_measure (given t ss) = beside (measure t) (slots_measure ss)

-- what a visit of a frozen value with parts finds, the value itself counted
abbrev pub branch_measure : FrozenBranch → Measure
branch_measure b = above (parts_measure b)

-- what a visit finds in the values of a dict, with a key beside each
abbrev pub values_measure : List FrozenTree → Measure
values_measure [] = no_values
values_measure (t ∷ ts) = beside (one true) (beside (measure t) (values_measure ts))

-- the parts of a branch: of a dict by place, with what a visit finds, and on at most 64 levels
pub record IsNoted (p : Parts) : Type 0 where
  pub paired : IsPaired p.node
  pub noted : IsExtent p.extent (branch_measure (node_branch p.node))
  pub bounded : p.extent.levels ≤ 64

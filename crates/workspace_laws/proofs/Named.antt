-- Names that a module gives to what it made change no depset.
use Rattle.std.proofs.Common.{◌≡◌, ◌∙◌, List, [], ◌∷◌, ◌++◌, Option, Some, None, map, refl}
use Rattle.std.specs.List.{flat_map}
use Rattle.values.specs.Shape.{value_of}
use Rattle.values.specs.Tree.{Trees, Pairs, Slots, key, leaf, branch, list, tuple, dict, instance, none, more, stop, pair, end, missing, given}
use Rattle.values.specs.View.{FrozenTree, FrozenBranch}
use Rattle.keys.specs.declared.key.Key.{Key}
use Rattle.leaves.specs.declared.leaf.Leaf.{Leaf}
use Rattle.leaves.specs.declared.leaf.Leaf.TheVariants as plain
use Rattle.leaves.specs.declared.leaf.Provider.{Provider}
use Rattle.one_tree.specs.Found.{in_leaf, in_tree, in_branch, in_trees, in_pairs, in_slots, in_value, in_values}
use Rattle.evaluation.specs.Naming.{Naming, leaf_named, named, branch_named, trees_named, pairs_named, slots_named, slot_named}
use Rattle.workspace_laws.specs.Found.{in_global}

-- a frozen value has the same depsets as the value that it is
pub one_value : (t : FrozenTree) → in_value (value_of t) ≡ in_tree t
one_value (key k) = refl
one_value (leaf l) = refl
one_value (branch b) = refl

module _ (ns : Naming) where
  leaf_same : (l : Leaf) → in_leaf (leaf_named ns l) ≡ in_leaf l
  leaf_same (plain.Depset d) = refl
  leaf_same (plain.Provider p) = refl
  leaf_same (plain.Rule r) = refl
  leaf_same _ = refl

  mutual
    tree_same : (t : FrozenTree) → in_tree (named ns t) ≡ in_tree t
    tree_same (key k) = refl
    tree_same (leaf l) = leaf_same l
    tree_same (branch b) = branch_same b

    branch_same : (b : FrozenBranch) → in_branch (branch_named ns b) ≡ in_branch b
    branch_same (list ts) = trees_same ts
    branch_same (tuple ts) = trees_same ts
    branch_same (dict ps) = pairs_same ps
    branch_same (instance p ss) = slots_same ss

    trees_same : (ts : Trees Leaf Key Provider) → in_trees (trees_named ns ts) ≡ in_trees ts
    trees_same none = refl
    trees_same (more t ts) = λ i. tree_same t i ++ trees_same ts i

    pairs_same : (ps : Pairs Leaf Key Provider) → in_pairs (pairs_named ns ps) ≡ in_pairs ps
    pairs_same stop = refl
    pairs_same (pair k t ps) = λ i. tree_same t i ++ pairs_same ps i

    slots_same : (ss : Slots Leaf Key Provider) → in_slots (slots_named ns ss) ≡ in_slots ss
    slots_same end = refl
    slots_same (missing ss) = slots_same ss
    slots_same (given t ss) = λ i. tree_same t i ++ slots_same ss i

  global_same : (o : Option FrozenTree) → in_global (slot_named ns o) ≡ in_global o
  global_same None = refl
  global_same (Some t) = tree_same t

  pub globals_same : (gs : List (Option FrozenTree))
      → flat_map in_global (map (slot_named ns) gs) ≡ flat_map in_global gs
  globals_same [] = refl
  globals_same (o ∷ gs) = λ i. global_same o i ++ globals_same gs i

  value_same : (t : FrozenTree) → in_value (value_of (named ns t)) ≡ in_tree t
  value_same t = one_value (named ns t) ∙ tree_same t

  values_same : (ts : List FrozenTree) → in_values (map (λ t. value_of (named ns t)) ts) ≡ flat_map in_tree ts
  values_same [] = refl
  values_same (t ∷ ts) = λ i. value_same t i ++ values_same ts i

  pub defaults_same : (tss : List (List FrozenTree))
      → flat_map in_values (map (map (λ t. value_of (named ns t))) tss) ≡ flat_map (flat_map in_tree) tss
  defaults_same [] = refl
  defaults_same (ts ∷ tss) = λ i. values_same ts i ++ defaults_same tss i

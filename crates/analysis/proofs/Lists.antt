-- Instances of a list of values that a branch has.
use Rattle.std.proofs.Common.{◌≡◌, ◌∙◌, List, ap, sym}
use Rattle.values.specs.Tree.{list, trees}
use Rattle.values.specs.View.{FrozenTree, FrozenBranch}
use Rattle.values.proofs.SeeLemmas.{tree_list-trees}
use Rattle.targets.specs.Steps.{if_instances, branch_instances}

pub list_instances : (b : FrozenBranch) (ts : List FrozenTree) → list (trees ts) ≡ b → if_instances ts ≡ branch_instances b
list_instances b ts is = ap if_instances (sym (tree_list-trees ts)) ∙ ap branch_instances is

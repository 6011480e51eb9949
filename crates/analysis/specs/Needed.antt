-- Labels as frozen values. (Bazel documentation, "Target"; docs/PROFILE.md, "Fields".)
use Rattle.values.specs.Tree.{leaf}
use Rattle.values.specs.View.{FrozenTree}
use Rattle.leaves.specs.declared.leaf.Leaf.TheVariants as plain
use Rattle.workspace.specs.Labels.{LabelParts, label_text}

-- the `label` of a dependency as an implementation reads it: a frozen value
abbrev pub label_tree : LabelParts → FrozenTree
label_tree l = leaf (plain.Label (label_text l))

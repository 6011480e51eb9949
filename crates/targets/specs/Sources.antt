-- What source files offer (Bazel documentation, "DefaultInfo"; docs/PROFILE.md, "Fields").
use Rattle.std.specs.Prelude.{ℕ, List, [], ◌∷◌, Some}
use Rattle.depsets.specs.Own.{Own}
use Rattle.depsets.specs.Rose.{Rose, node}
use Rattle.depsets.specs.Rose as rose
use Rattle.depsets.specs.declared.depset.Order.TheVariants as order
use Rattle.depsets.specs.declared.element.Element.{Element}
use Rattle.depsets.specs.declared.element.Element.TheVariants as element
use Rattle.depsets.specs.declared.element.FileRef.{FileRef}
use Rattle.values.specs.Tree.{leaf, branch, instance, slots}
use Rattle.values.specs.View.{FrozenTree}
use Rattle.leaves.specs.declared.leaf.Leaf.TheVariants as plain
use Rattle.operations.specs.Instances.{default_info}

-- a depset that no call made, with serial 0: that of a source file has its File, and that of a
-- missing `DefaultInfo` is empty
abbrev pub first_depset : List ℕ → List Element → Rose Own
first_depset owner es =
    node
    (record { id = record { owner = owner; serial = 0 }; order = order.Default; direct = es })
    rose.none

-- the depset of a source file: it has its File, and no call made it
abbrev pub source_files : FileRef → Rose Own
source_files f = first_depset f.owner (element.File f ∷ [])

-- a `DefaultInfo` with these Files
abbrev pub info_with : Rose Own → FrozenTree
info_with d = branch (instance default_info (slots (Some (leaf (plain.Depset d)) ∷ [])))

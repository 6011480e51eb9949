-- The methods of `attr`, which every file finds bound (Bazel documentation, "attr";
-- docs/PROFILE.md, "Calls for attributes"). Which of them a place may call is said of each place.
use Rattle.std.specs.Prelude.{ℕ, List, Option, Some, None, codes, bytes_eq, if◌then◌else◌}
use Rattle.leaves.specs.declared.leaf.AttributeKind.{AttributeKind}
use Rattle.leaves.specs.declared.leaf.AttributeKind.TheVariants as kind

-- the kind of attribute that a method of `attr` declares
abbrev pub kind_named : List ℕ → Option AttributeKind
kind_named x =
    if bytes_eq x (codes "string") then Some kind.String else
    if bytes_eq x (codes "int") then Some kind.Int else
    if bytes_eq x (codes "bool") then Some kind.Bool else
    if bytes_eq x (codes "string_list") then Some kind.StringList else
    if bytes_eq x (codes "string_dict") then Some kind.StringDict else
    if bytes_eq x (codes "label") then Some kind.Label else
    if bytes_eq x (codes "label_list") then Some kind.LabelList else
    None

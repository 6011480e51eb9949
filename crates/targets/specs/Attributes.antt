-- Attributes of rules, and what a target has for them (Bazel documentation, "Rules", "Attributes"
-- and the module `attr`; docs/PROFILE.md, "Attributes").
use Rattle.std.specs.Prelude.{ℕ, Bool, false, not, ◌&&◌, ◌||◌, nat_eq, List, [], ◌∷◌, Some}
use Rattle.std.specs.Prelude.{None, is_some, codes, bytes_eq}
use Rattle.std.specs.List.{flat_map, list_all}
use Rattle.workspace.specs.Labels.{LabelParts}
use Rattle.targets.specs.declared.attributes.AttributeValue.{AttributeValue}
use Rattle.targets.specs.declared.attributes.AttributeValue.TheVariants as has
use Rattle.targets.specs.declared.attributes.NamedAttribute.{NamedAttribute}
use Rattle.targets.specs.declared.target.Target.{Target}
pub use Rattle.targets.specs.Defaults.{default_of_kind, default_of}

-- an attribute whose name begins with `_` can't be set by a target
abbrev pub is_private : List ℕ → Bool
is_private [] = false
is_private (b ∷ bs) = nat_eq b 95

-- Whether a rule may have an attribute of this name: every rule has `name` already, and a private
-- attribute needs a default that is given. (The second is this project's own.)
abbrev pub is_attribute : NamedAttribute → Bool
is_attribute a =
    not (bytes_eq a.name (codes "name")) && (not (is_private a.name) || is_some a.attribute.default)

-- whether a rule may have all these attributes
abbrev pub are_attributes : List NamedAttribute → Bool
are_attributes named = list_all is_attribute named

-- the labels of a value, in order
abbrev pub labels_in : AttributeValue → List LabelParts
labels_in (has.Key k) = []
labels_in (has.Strings ts) = []
labels_in (has.StringDict es) = []
labels_in (has.Label None) = []
labels_in (has.Label (Some l)) = l ∷ []
labels_in (has.Labels ls) = ls

-- those of a target, in the order of its rule's attributes and of each value
abbrev pub labels_of : Target → List LabelParts
labels_of t = flat_map labels_in t.values

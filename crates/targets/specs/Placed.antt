-- The names of a rule's attributes, and their defaults. (Bazel documentation, "Rules",
-- "Attributes"; docs/PROFILE.md, "Attributes".)
use Rattle.std.specs.Prelude.{ℕ, List, map}
use Rattle.targets.specs.Defaults.{default_of}
use Rattle.targets.specs.declared.attributes.AttributeValue.{AttributeValue}
use Rattle.targets.specs.declared.attributes.NamedAttribute.{NamedAttribute}

-- the names of a rule's attributes, in the order of `attrs`
abbrev pub names_of : List NamedAttribute → List (List ℕ)
names_of named = map (λ a. a.name) named

-- what a target has for each attribute where nothing is given
abbrev pub defaults_of : List NamedAttribute → List AttributeValue
defaults_of named = map (λ a. default_of a.attribute) named

-- The defaults of attributes (Bazel documentation, the module `attr`; docs/PROFILE.md,
-- "Attributes").
use Rattle.std.specs.Prelude.{pos, false, [], None, unwrap_or}
use Rattle.keys.specs.declared.key.Key.TheVariants as index
use Rattle.leaves.specs.declared.leaf.AttributeKind.{AttributeKind}
use Rattle.leaves.specs.declared.leaf.AttributeKind.TheVariants as kind
use Rattle.targets.specs.declared.attributes.Attribute.{Attribute}
use Rattle.targets.specs.declared.attributes.AttributeValue.{AttributeValue}
use Rattle.targets.specs.declared.attributes.AttributeValue.TheVariants as has

-- the default of a kind: `""`, `0`, `False`, `[]`, `{}`, None, `[]`
abbrev pub default_of_kind : AttributeKind → AttributeValue
default_of_kind kind.String = has.Key (index.Text [])
default_of_kind kind.Int = has.Key (index.Number (pos 0))
default_of_kind kind.Bool = has.Key (index.Truth false)
default_of_kind kind.StringList = has.Strings []
default_of_kind kind.StringDict = has.StringDict []
default_of_kind kind.Label = has.Label None
default_of_kind kind.LabelList = has.Labels []

-- the default of an attribute: the one that was given with it, else that of its kind
abbrev pub default_of : Attribute → AttributeValue
default_of a = unwrap_or a.default (default_of_kind a.kind)

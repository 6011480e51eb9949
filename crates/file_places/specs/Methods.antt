-- What has methods for a file: `attr` (Bazel documentation, "attr"; docs/PROFILE.md, "Calls for
-- attributes"). Which of its calls are allowed is said of each place.
use Rattle.std.specs.Prelude.{ℕ, Bool, List, Option, None, is_some}
use Rattle.leaves.specs.declared.leaf.AttributeKind.{AttributeKind}
use Rattle.leaves.specs.declared.leaf.Leaf.{Leaf}
use Rattle.leaves.specs.declared.leaf.Leaf.TheVariants as plain
use Rattle.leaves.specs.declared.leaf.Object.TheVariants as object
use Rattle.language.specs.Attr.{kind_named}

-- files see `attr` alone of the objects that have methods: `ctx` is an implementation's
abbrev pub declared_kind : Leaf → List ℕ → Option AttributeKind
declared_kind (plain.Object object.Attr) x = kind_named x
declared_kind _ x = None

-- whether an object that files see has a method of this name
abbrev pub has_method : Leaf → List ℕ → Bool
has_method l x = is_some (declared_kind l x)

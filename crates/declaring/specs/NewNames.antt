-- Names that a module gives to fields of providers and to attributes of rules, and `doc`, which its
-- calls take and nothing uses (Bazel documentation, "provider" and "rule"; which names there are is
-- docs/PROFILE.md, "Tokens").
use Rattle.std.specs.Prelude.{ℕ, Bool, true, false, List, Option, Some, None, option_and_then}
use Rattle.std.specs.Prelude.{if◌then◌else◌}
use Rattle.lexer.specs.Names.{spells_name}
use Rattle.values.specs.Shape.{Shape, key, atom, shape}
use Rattle.values.specs.declared.cells.Cell.{Cell}
use Rattle.keys.specs.declared.key.Key.TheVariants as index
use Rattle.leaves.specs.declared.leaf.Leaf.TheVariants as plain
use Rattle.values.specs.declared.value.Value.{Value}
use Rattle.operations.specs.Reading.{string_in}

-- a text, if it is a name: no word of the language is one, and `None` is
abbrev pub if_name : List ℕ → Option (List ℕ)
if_name t = if spells_name t then Some t else None

-- the name that a string is, as an item of a list or as a key of a dict
abbrev pub name_in : Shape → Option (List ℕ)
name_in s = option_and_then if_name (string_in s)

-- `doc` is a string or None
abbrev pub is_doc : Shape → Bool
is_doc (key (index.Text t)) = true
is_doc (atom plain.None) = true
is_doc _ = false

-- what a call gives as `doc`, which may be missing
abbrev pub may_be_doc : List Cell → Option Value → Bool
may_be_doc h None = true
may_be_doc h (Some v) = is_doc (shape h v)

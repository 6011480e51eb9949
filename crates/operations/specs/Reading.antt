-- What a value is, where an operation asks for one type.
use Rattle.std.specs.Prelude.{ℤ, List, Option, Some, None, Result, Err}
use Rattle.depsets.specs.Rose.{Rose}
use Rattle.depsets.specs.Own.{Own}
use Rattle.values.specs.Shape.{Shape, key, atom, items}
use Rattle.leaves.specs.declared.leaf.Leaf.{Leaf}
use Rattle.leaves.specs.declared.leaf.Leaf.TheVariants as plain
use Rattle.keys.specs.declared.key.Key.{Key}
use Rattle.keys.specs.declared.key.Key.TheVariants as index
use Rattle.values.specs.declared.value.Value.{Value}
use Rattle.ticks.specs.declared.ticks.Kind.{Kind}
use Rattle.ticks.specs.declared.ticks.Kind.TheVariants.{Wrong}
pub use Rattle.printing.specs.Repr.{string_in}

-- the whole number that a key is, if it is one
abbrev pub key_number : Key → Option ℤ
key_number (index.Number n) = Some n
key_number _ = None

-- a whole number; bools are none
abbrev pub number_in : Shape → Option ℤ
number_in (key k) = key_number k
number_in _ = None

-- what may be a key of a dict: a string, a whole number or a bool. (This project's own rule.)
abbrev pub key_in : Shape → Option Key
key_in (key k) = Some k
key_in _ = None

-- the items of a list or of a tuple
abbrev pub sequence_in : Shape → Option (List Value)
sequence_in (items j xs) = Some xs
sequence_in _ = None

-- the depset that a value without parts is, if it is one
abbrev pub leaf_depset : Leaf → Option (Rose Own)
leaf_depset (plain.Depset d) = Some d
leaf_depset _ = None

-- the same of any value, by what it shows
abbrev pub depset_in : Shape → Option (Rose Own)
depset_in (atom l) = leaf_depset l
depset_in _ = None

-- what is done with it, or `type` where a value is of another type
abbrev pub of_type : {A B : Type 0} → Option A → (A → Result B Kind) → Result B Kind
of_type (Some a) f = f a
of_type None f = Err Wrong

-- Items of strings, lists, tuples and dicts. (Starlark's specification, "Index expressions" and
-- "dict·get"; which values are keys is this project's own.)
use Rattle.std.specs.Prelude.{ℕ, ℤ, List, [], ◌∷◌, length, Option, Some, None, slice_get, Result}
use Rattle.std.specs.Prelude.{Ok, Err, nat_lt, if◌then◌else◌}
use Rattle.std.specs.Map.{lookup}
use Rattle.numbers.specs.Places.{place_of}
use Rattle.leaves.specs.Leaves.{same_key}
use Rattle.values.specs.Shape.{Shape, key, atom, items, entries, fields, nothing, shape}
use Rattle.keys.specs.declared.key.Key.{Key}
use Rattle.keys.specs.declared.key.Key.TheVariants as index
use Rattle.values.specs.declared.value.Value.{Value}
use Rattle.ticks.specs.declared.ticks.Kind.{Kind}
use Rattle.ticks.specs.declared.ticks.Kind.TheVariants as kind
use Rattle.operations.specs.States.{Op, keeping}
use Rattle.operations.specs.Reading.{number_in, key_in, of_type}
use Rattle.operations.specs.Making.{text}

-- what is there, or this fault where nothing is
abbrev pub or_fault : {A : Type 0} → Kind → Option A → Result A Kind
or_fault k (Some a) = Ok a
or_fault k None = Err k

-- what stands at a place, which is none outside
abbrev pub at_place : {A : Type 0} → List A → Option ℕ → Option A
at_place xs None = None
at_place xs (Some i) = slice_get xs i

-- the item at an index, from the end where it is negative; outside is `index`
abbrev pub item_at : List Value → ℤ → Result Value Kind
item_at xs i = or_fault kind.Index (at_place xs (place_of i (length xs)))

-- the string of a byte; those of the language's strings are below 128
abbrev pub byte_text : Option ℕ → Result Value Kind
byte_text (Some b) = if nat_lt b 128 then Ok (text (b ∷ [])) else Err kind.Index
byte_text None = Err kind.Index

-- the string of the byte at an index
abbrev pub byte_at : List ℕ → ℤ → Result Value Kind
byte_at t i = byte_text (at_place t (place_of i (length t)))

-- a key that isn't there is `key`
abbrev pub value_at : List (Key × Value) → Key → Result Value Kind
value_at es k = or_fault kind.Key (lookup (same_key k) es)

-- the item of a string at an index; a whole number and a bool have no items
abbrev pub key_item : Key → Option ℤ → Result Value Kind
key_item (index.Text t) i = of_type i (byte_at t)
key_item (index.Number n) i = Err kind.Wrong
key_item (index.Truth b) i = Err kind.Wrong

-- `b[i]` of what the base and the index show
abbrev pub item_in : Shape → Shape → Result Value Kind
item_in (key k) i = key_item k (number_in i)
item_in (items j xs) i = of_type (number_in i) (item_at xs)
item_in (entries es) i = of_type (key_in i) (value_at es)
item_in (atom l) i = Err kind.Wrong
item_in (fields p xs) i = Err kind.Wrong
item_in nothing i = Err kind.Wrong

-- `b[i]`: `type` first, and then `index`, or of a dict `key`. What a target gives is said where
-- there are targets.
abbrev pub item : Value → Value → Op Value
item b i s = keeping (item_in (shape s.heap b) (shape s.heap i)) s

-- the value that was found, or the default of `d.get`
abbrev pub or_else : Value → Option Value → Value
or_else d (Some v) = v
or_else d None = d

-- the value of what may be a key, if it is one of these entries'
abbrev pub found : List (Key × Value) → Shape → Result (Option Value) Kind
found es k = of_type (key_in k) (λ i. Ok (lookup (same_key i) es))

-- `d.get(k, default)`
abbrev pub got : List (Key × Value) → Value → Shape → Result Value Kind
got es d k = of_type (key_in k) (λ i. Ok (or_else d (lookup (same_key i) es)))

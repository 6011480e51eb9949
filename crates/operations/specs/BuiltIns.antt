-- The built-in functions that every file finds bound, but for those of one place. Each tests its
-- arguments first (`arity`), then their types (`type`), and then what else may be wrong with them.
-- (Starlark's specification, "Built-in constants and functions"; which values each takes is this
-- project's own; docs/PROFILE.md, "Calls of the language".)
use Rattle.std.specs.Prelude.{ℕ, ℤ, pos, List, [], ◌∷◌, length, map, Option, Some, None, Result, Ok}
use Rattle.std.specs.Prelude.{Err}
use Rattle.numbers.specs.Ranges.{range_of}
use Rattle.ticks.specs.Ticking.{Count}
use Rattle.values.specs.Shape.{Shape, key, items, entries, shape}
use Rattle.values.specs.Visits.{keys_of}
use Rattle.keys.specs.declared.key.Key.{Key}
use Rattle.keys.specs.declared.key.Key.TheVariants as index
use Rattle.values.specs.declared.value.Value.{Value}
use Rattle.values.specs.declared.value.Value.TheVariants as value
use Rattle.values.specs.declared.cells.Cell.{Cell}
use Rattle.ticks.specs.declared.ticks.Kind.{Kind}
use Rattle.ticks.specs.declared.ticks.Kind.TheVariants as kind
use Rattle.printing.specs.Repr.{repr_of}
use Rattle.operations.specs.declared.state.State.{State}
use Rattle.operations.specs.declared.made.Made.{Made}
use Rattle.operations.specs.declared.made.Made.TheVariants as new
use Rattle.operations.specs.States.{Op, Doing, keeping, then_give}
use Rattle.operations.specs.Reading.{string_in, number_in, of_type}
use Rattle.operations.specs.Making.{number, text, make}
use Rattle.operations.specs.Arguments.{Given, wanted, bound, one, positions}

-- a call of one parameter, by position or by name
abbrev pub argument : List ℕ → Given → Result Value Kind
argument x g = then_give (bound (wanted x ∷ []) g) (one Ok)

-- a call is done with the argument that it got, or has the fault of its arguments
abbrev pub with_argument : Result Value Kind → (Value → Op Value) → Op Value
with_argument (Ok v) f s = f v s
with_argument (Err k) f s = Err k

-- what `len` answers: how many bytes a string has, items a list or a tuple, entries a dict; all
-- else has no length. Here of a key
abbrev pub key_size : Key → Option ℕ
key_size (index.Text t) = Some (length t)
key_size _ = None

-- the length of any value, by what it shows
abbrev pub size_in : Shape → Option ℕ
size_in (key k) = key_size k
size_in (items j xs) = Some (length xs)
size_in (entries es) = Some (length es)
size_in _ = None

-- len(x)
abbrev pub len : Value → Op Value
len v s = keeping (of_type (size_in (shape s.heap v)) (λ n. Ok (number (pos n)))) s

-- the text of a value as a string, with the ticks after its visit; or the fault of the visit
abbrev pub text_value : State → Result (List ℕ × Count) Kind → Doing Value
text_value s (Ok p) = Ok (text p.0, record s { ticks = p.1 })
text_value s (Err k) = Err k

-- str(x)
abbrev pub str : Value → Op Value
str v s = text_value s (repr_of s.heap v s.ticks)

-- a new list of these numbers, or `large` where they are too many
abbrev pub numbers : Option (List ℤ) → Result Made Kind
numbers (Some ns) = Ok (new.List (map number ns))
numbers None = Err kind.Large

-- the numbers between two bounds; `type` where one isn't a whole number
abbrev pub range_between : Option ℤ → Option ℤ → Result Made Kind
range_between (Some a) (Some b) = numbers (range_of a b)
range_between _ _ = Err kind.Wrong

-- the numbers that one argument or two ask for; another count of arguments is `arity`
abbrev pub range_in : List Cell → List Value → Result Made Kind
range_in h (n ∷ []) = range_between (Some (pos 0)) (number_in (shape h n))
range_in h (a ∷ b ∷ []) = range_between (number_in (shape h a)) (number_in (shape h b))
range_in h _ = Err kind.Arity

-- range(n), range(a, b): a new list
abbrev pub range : Given → Op Value
range g s = make (then_give (positions g) (range_in s.heap)) s

-- the items of a list or of a tuple, or the keys of a dict
abbrev pub listed_in : Shape → Option (List Value)
listed_in (items j xs) = Some xs
listed_in (entries es) = Some (map value.Key (keys_of es))
listed_in _ = None

-- list(x)
abbrev pub list : Value → Op Value
list v s = make (of_type (listed_in (shape s.heap v)) (λ xs. Ok (new.List xs))) s

-- fail(text)
abbrev pub fail : Value → Op Value
fail v s = keeping (of_type (string_in (shape s.heap v)) (λ t. Err (kind.Fail t))) s

-- New values. A list, a tuple or a dict takes the next cell. (Starlark's specification, "Identity
-- and mutation"; the limit of size is this project's own.)
use Rattle.std.specs.Prelude.{ℕ, ℤ, Bool, true, false, List, [], length, Option, Some, None, Result}
use Rattle.std.specs.Prelude.{Ok, Err}
use Rattle.heap.specs.Cells.{made, list_changed, dict_changed, pushed, keyed}
use Rattle.values.specs.Keyed.{has_key}
use Rattle.values.specs.Shape.{Shape, entries, shape}
use Rattle.leaves.specs.declared.leaf.Leaf.TheVariants as plain
use Rattle.keys.specs.declared.key.Key.{Key}
use Rattle.keys.specs.declared.key.Key.TheVariants as index
use Rattle.values.specs.declared.value.Value.{Value}
use Rattle.values.specs.declared.value.Value.TheVariants as value
use Rattle.values.specs.declared.cells.Cell.{Cell}
use Rattle.values.specs.declared.cells.Cell.TheVariants as cell
use Rattle.ticks.specs.declared.ticks.Kind.{Kind}
use Rattle.ticks.specs.declared.ticks.Kind.TheVariants as kind
use Rattle.operations.specs.declared.made.Made.{Made}
use Rattle.operations.specs.declared.made.Made.TheVariants as new
use Rattle.operations.specs.States.{Op, with_heap, changed}
use Rattle.operations.specs.Reading.{key_in, of_type}

-- `None` as a value
abbrev pub none : Value
none = value.Leaf plain.None

-- a bool as a value
abbrev pub truth : Bool → Value
truth b = value.Key (index.Truth b)

-- a whole number as a value
abbrev pub number : ℤ → Value
number n = value.Key (index.Number n)

-- a string as a value
abbrev pub text : List ℕ → Value
text t = value.Key (index.Text t)

-- a display of a list, after its items
abbrev pub new_list : List Value → Op Value
new_list xs s = with_heap s (made s.heap (cell.List xs 0) (length xs))

-- a display of a tuple, after its items
abbrev pub new_tuple : List Value → Op Value
new_tuple xs s = with_heap s (made s.heap (cell.Tuple xs) (length xs))

-- a dict, without entries at first
abbrev pub new_dict : Op Value
new_dict s = with_heap s (made s.heap (cell.Dict [] 0) 0)

-- a value of its own, or a new cell
abbrev pub placed : Made → Op Value
placed (new.Key k) s = Ok (value.Key k, s)
placed (new.Leaf l) s = Ok (value.Leaf l, s)
placed (new.List xs) s = new_list xs s
placed (new.Tuple xs) s = new_tuple xs s

-- what an operation gives gets its place in the state, or has its fault
abbrev pub make : Result Made Kind → Op Value
make (Ok m) s = placed m s
make (Err k) s = Err k

-- a new list, or a new tuple
abbrev pub sequence : Bool → List Value → Made
sequence true xs = new.List xs
sequence false xs = new.Tuple xs

-- a comprehension's list gets an item more: `large` at the item that is one too many
abbrev pub collect : Value → Value → Op (Unit {0})
collect l x s = changed tt s (list_changed (pushed x) s.heap l)

-- a comprehension's dict gets an entry more: the later value of a key stays, at the key's first
-- place
abbrev pub keep : Value → Value → Value → Op (Unit {0})
keep d k v s =
    changed tt s (of_type (key_in (shape s.heap k)) (λ i. dict_changed (keyed i v) s.heap d))

-- the entries of a dict, and of anything else none
abbrev pub entries_in : Shape → List (Key × Value)
entries_in (entries es) = es
entries_in _ = []

-- whether it is a key that the dict has already
abbrev pub is_held : List (Key × Value) → Option Key → Bool
is_held es (Some k) = has_key es k
is_held es None = false

-- what is there already is `key`
abbrev pub unless_there : Bool → Result (List Cell) Kind → Result (List Cell) Kind
unless_there true r = Err kind.Key
unless_there false r = r

-- A dict display gets an entry more, once its key and its value are known: `type` where the key
-- can't be one, and then `key` where it stands there twice. (Starlark's specification, "Dictionary
-- expressions".)
abbrev pub enter : Value → Value → Value → Op (Unit {0})
enter d k v s =
    changed tt s (unless_there (is_held (entries_in (shape s.heap d)) (key_in (shape s.heap k)))
    (of_type (key_in (shape s.heap k)) (λ i. dict_changed (keyed i v) s.heap d)))

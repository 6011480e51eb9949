-- What is asked of strings, and of what else has members. (Starlark's specification, "Membership
-- tests" and "Built-in methods"; ticks, and which values have members, are this project's own.)
use Rattle.std.specs.Prelude.{ℕ, Bool, List, map, Result, Ok, Err}
use Rattle.strings.specs.Affixes.{begins, ends}
use Rattle.strings.specs.Parts.{is_part}
use Rattle.strings.specs.Splitting.{split_of}
use Rattle.strings.specs.Joining.{join_of}
use Rattle.strings.specs.declared.errors.StringError.{StringError}
use Rattle.strings.specs.declared.errors.StringError.TheVariants as refused
use Rattle.ticks.specs.Ticking.{Count, Ticking, with_count}
use Rattle.values.specs.Shape.{Shape, key, atom, items, entries, fields, nothing, shape}
use Rattle.ticks.specs.declared.ticks.TheConstants.{VISITED_LEVELS}
use Rattle.keys.specs.declared.key.Key.{Key}
use Rattle.keys.specs.declared.key.Key.TheVariants as index
use Rattle.values.specs.declared.value.Value.{Value}
use Rattle.values.specs.declared.cells.Cell.{Cell}
use Rattle.ticks.specs.declared.ticks.Kind.{Kind}
use Rattle.ticks.specs.declared.ticks.Kind.TheVariants as kind
use Rattle.visits.specs.Equal.{equal_at}
use Rattle.operations.specs.declared.made.Made.TheVariants as new
use Rattle.operations.specs.States.{Op, keeping, with_ticks, then_give}
use Rattle.operations.specs.Reading.{string_in, key_in, sequence_in, of_type}
use Rattle.operations.specs.Making.{text, truth, make}
use Rattle.operations.specs.Equality.{among, is_key_of}
use Rattle.operations.specs.Depsets.{all_in}

-- a part of a string
abbrev pub part_of : Key → Shape → Result Bool Kind
part_of (index.Text t) x = of_type (string_in x) (λ p. Ok (is_part p t))
part_of (index.Number n) x = Err kind.Wrong
part_of (index.Truth b) x = Err kind.Wrong

-- of a list or a tuple some item that equals it, of a dict a key, of a string a part of it; all
-- else is `type`
abbrev pub held_in : List Cell → Value → Shape → Count → Ticking Bool
held_in h x (items j ys) c = among (equal_at VISITED_LEVELS h) x ys c
held_in h x (entries es) c = with_count (of_type (key_in (shape h x)) (is_key_of es)) c
held_in h x (key k) c = with_count (part_of k (shape h x)) c
held_in h x (atom l) c = Err kind.Wrong
held_in h x (fields p xs) c = Err kind.Wrong
held_in h x nothing c = Err kind.Wrong

-- `x in y`, where `y` is no target
abbrev pub member : Value → Value → Op Bool
member x y s = with_ticks s (held_in s.heap x (shape s.heap y) s.ticks)

-- the fault of a string operation that is refused; an empty separator is `type`
abbrev pub string_fault : StringError → Kind
string_fault refused.Large = kind.Large
string_fault refused.Index = kind.Index
string_fault refused.EmptySeparator = kind.Wrong

-- what the string operation gives, or its fault
abbrev pub or_string_fault : {A : Type 0} → Result A StringError → Result A Kind
or_string_fault (Ok a) = Ok a
or_string_fault (Err e) = Err (string_fault e)

-- t.split(sep): an empty separator is `type`
abbrev pub split : List ℕ → Value → Op Value
split t v s =
    make (of_type (string_in (shape s.heap v))
    (λ sep. then_give (or_string_fault (split_of sep t)) (λ ts. Ok (new.List (map text ts))))) s

-- t.join(q): each item is a string, and then the size is known
abbrev pub join : List ℕ → Value → Op Value
join t v s =
    keeping (of_type (sequence_in (shape s.heap v))
    (λ xs. then_give (all_in string_in s.heap xs) (λ ts.
    then_give (or_string_fault (join_of t ts)) (λ u. Ok (text u))))) s

-- t.startswith(p)
abbrev pub starts_with : List ℕ → Value → Op Value
starts_with t v s = keeping (of_type (string_in (shape s.heap v)) (λ p. Ok (truth (begins p t)))) s

-- t.endswith(p)
abbrev pub ends_with : List ℕ → Value → Op Value
ends_with t v s = keeping (of_type (string_in (shape s.heap v)) (λ p. Ok (truth (ends p t)))) s

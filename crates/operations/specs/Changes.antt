-- Changes of lists and dicts, seen through every name of them. Each is refused by the first of
-- `type`, `frozen`, `iterating`, `index` and `large`. (Starlark's specification, "Augmented
-- assignments", "list·append" and "list·extend"; that `x += y` extends a list by a tuple too, and
-- that `extend` takes nothing but lists and tuples, is this project's own.)
use Rattle.std.specs.Prelude.{true, List, Option, Some, None, Result, Err}
use Rattle.heap.specs.Cells.{list_changed, dict_changed, joined, pushed, indexed, keyed}
use Rattle.values.specs.Shape.{Shape, key, atom, items, entries, fields, nothing, shape}
use Rattle.values.specs.declared.value.Value.{Value}
use Rattle.values.specs.declared.cells.Cell.{Cell}
use Rattle.ticks.specs.declared.ticks.Kind.{Kind}
use Rattle.ticks.specs.declared.ticks.Kind.TheVariants.{Wrong}
use Rattle.operations.specs.States.{Op, changed}
use Rattle.operations.specs.Reading.{number_in, key_in, sequence_in, of_type}
use Rattle.operations.specs.Making.{none}

-- `l.append(x)`, which keeps the value itself
abbrev pub append : Value → Value → Op Value
append l x s = changed none s (list_changed (pushed x) s.heap l)

-- `l.extend(q)`, by the items that the sequence has now
abbrev pub extend : Value → Value → Op Value
extend l q s =
    changed none s (of_type (sequence_in (shape s.heap q))
    (λ xs. list_changed (joined xs) s.heap l))

-- what `x += y` extends `x` by: the items of `y`, where `x` is a list and `y` a list or a tuple
abbrev pub extension : Shape → Shape → Option (List Value)
extension (items true xs) (items j ys) = Some ys
extension _ _ = None

-- the list itself, with these items more
abbrev pub extended : List Value → Value → Op Value
extended ys x s = changed x s (list_changed (joined ys) s.heap x)

-- `b[i] = v` of what the base and the index show
abbrev pub set_in : Shape → Shape → List Cell → Value → Value → Result (List Cell) Kind
set_in (items j xs) i h b v = of_type (number_in i) (λ n. list_changed (indexed n v) h b)
set_in (entries es) i h b v = of_type (key_in i) (λ k. dict_changed (keyed k v) h b)
set_in (key k) i h b v = Err Wrong
set_in (atom l) i h b v = Err Wrong
set_in (fields p xs) i h b v = Err Wrong
set_in nothing i h b v = Err Wrong

-- `b[i] = v`
abbrev pub set_item : Value → Value → Value → Op (Unit {0})
set_item b i v s = changed tt s (set_in (shape s.heap b) (shape s.heap i) s.heap b v)

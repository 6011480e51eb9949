-- Methods of lists, dicts and depsets. They take positions alone, and `arity` comes before all
-- else. (Starlark's specification, "Built-in methods"; Bazel's documentation of depsets.)
use Rattle.std.specs.Prelude.{List, [], ◌∷◌, ◌++◌, map, Ok, Err}
use Rattle.values.specs.Shape.{shape}
use Rattle.values.specs.Visits.{keys_of}
use Rattle.keys.specs.declared.key.Key.{Key}
use Rattle.values.specs.declared.value.Value.{Value}
use Rattle.values.specs.declared.value.Value.TheVariants as value
use Rattle.ticks.specs.declared.ticks.Kind.TheVariants.{Arity}
use Rattle.operations.specs.States.{Op, keeping, then_do}
use Rattle.operations.specs.Making.{none, new_list, new_tuple}
use Rattle.operations.specs.Items.{got}

-- exactly one position
abbrev pub with_one : (Value → Op Value) → List Value → Op Value
with_one f (v ∷ []) s = f v s
with_one f _ s = Err Arity

-- no position
abbrev pub with_none : Op Value → List Value → Op Value
with_none f [] s = f s
with_none f _ s = Err Arity

-- d.get(k, default)
abbrev pub get : List (Key × Value) → List Value → Op Value
get es (k ∷ []) s = keeping (got es none (shape s.heap k)) s
get es (k ∷ d ∷ []) s = keeping (got es d (shape s.heap k)) s
get es _ s = Err Arity

-- d.keys(), in order of insertion
abbrev pub keys : List (Key × Value) → Op Value
keys es s = new_list (map value.Key (keys_of es)) s

-- d.values(), in order of insertion
abbrev pub values : List (Key × Value) → Op Value
values es s = new_list (map (λ e. e.1) es) s

-- d.items(): the tuples of two take the next cells in the order of the entries, and then the list
abbrev pub pairs_behind : List Value → List (Key × Value) → Op (List Value)
pairs_behind vs [] s = Ok (vs, s)
pairs_behind vs (e ∷ es) s =
    then_do (new_tuple (value.Key e.0 ∷ e.1 ∷ []) s) (λ v t. pairs_behind (vs ++ v ∷ []) es t)

-- d.items(), whose list comes after its tuples
abbrev pub pairs : List (Key × Value) → Op Value
pairs es s = then_do (pairs_behind [] es s) new_list

-- `dict.items()`, of keys and values by place; and a heap that has only cells more. (Starlark
-- specification, "dict·items"; the steps in which it is made are this project's own.)
use Rattle.std.specs.Prelude.{◌≡◌, List, [], ◌∷◌, ◌++◌, Ok}
use Rattle.values.specs.declared.value.Value.{Value}
use Rattle.values.specs.declared.cells.Cell.{Cell}
use Rattle.operations.specs.declared.state.State.{State}
use Rattle.operations.specs.States.{Op, then_do}
use Rattle.operations.specs.Making.{new_list, new_tuple}

-- a tuple more, behind those that are made
abbrev pub tuple_behind : List Value → Value → Value → Op (List Value)
tuple_behind vs k v s = then_do (new_tuple (k ∷ v ∷ []) s) (λ t r. Ok (vs ++ t ∷ [], r))

-- a tuple of each key and its value
abbrev pub tuples_behind : List Value → List Value → List Value → Op (List Value)
tuples_behind vs [] ys s = Ok (vs, s)
tuples_behind vs (x ∷ xs) [] s = Ok (vs, s)
tuples_behind vs (x ∷ xs) (y ∷ ys) s =
    then_do (tuple_behind vs x y s) (λ us t. tuples_behind us xs ys t)

-- and a list of them
abbrev pub listed_tuples : List Value → List Value → Op Value
listed_tuples xs ys s = then_do (tuples_behind [] xs ys s) new_list

-- the heap has cells more, and no depset was made
abbrev pub Grown : State → State → Type 0
Grown old new = ((cs : List Cell) × (new.heap ≡ old.heap ++ cs)) × (new.depsets ≡ old.depsets)

-- Equality and membership. (Starlark's specification, "Comparisons" and "Membership tests"; ticks,
-- and which values can't be compared, are this project's own.)
use Rattle.std.specs.Prelude.{Bool, true, false, List, [], ◌∷◌, Result, Ok, if◌then◌else◌}
use Rattle.ticks.specs.Ticking.{Count, Ticking, then_on}
use Rattle.values.specs.Keyed.{has_key}
use Rattle.ticks.specs.declared.ticks.TheConstants.{VISITED_LEVELS}
use Rattle.keys.specs.declared.key.Key.{Key}
use Rattle.values.specs.declared.value.Value.{Value}
use Rattle.ticks.specs.declared.ticks.Kind.{Kind}
use Rattle.visits.specs.Equal.{equal_at}
use Rattle.operations.specs.States.{Op, with_ticks}

-- `x == y`: a tick for each pair that is visited
abbrev pub equals : Value → Value → Op Bool
equals x y s = with_ticks s (equal_at VISITED_LEVELS s.heap x y s.ticks)

-- `item == x`, of the items in order, until one is
abbrev pub among : (Value → Value → Count → Ticking Bool) → Value → List Value → Count
    → Ticking Bool
among eq x [] c = Ok (false, c)
among eq x (y ∷ ys) c = then_on (eq y x c) (λ b d. if b then Ok (true, d) else among eq x ys d)

-- whether it is one of the keys
abbrev pub is_key_of : List (Key × Value) → Key → Result Bool Kind
is_key_of es k = Ok (has_key es k)

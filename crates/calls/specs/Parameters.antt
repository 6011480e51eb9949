-- Parameters as the definitions have them, and what each gets where the arguments fit: what stands
-- at its place, or else what was given under its name. (Starlark's specification, "Function and
-- method calls".)
use Rattle.std.specs.Prelude.{◌≡◌, ℕ, ◌+◌, Bool, true, not, ◌&&◌, List, [], ◌∷◌, slice_get}
use Rattle.std.specs.Option.{option_or}
use Rattle.std.specs.Prelude.{Option, Some, None, is_some, Err}
use Rattle.values.specs.declared.value.Value.{Value}
use Rattle.operations.specs.Arguments.{Given, Parameter as Taken, Bound, given_for}
use Rattle.ticks.specs.declared.ticks.Kind.TheVariants.{Arity}
use Rattle.operations.specs.declared.state.State.{State}
use Rattle.operations.specs.States.{Op}
use Rattle.operations.specs.Methods.{with_one}
use Rattle.calls.specs.declared.arguments.Parameter.{Parameter}

-- a parameter of a call as the definitions of calls have it
abbrev pub taken : Parameter → Taken
taken p = record { name = p.name.now; by_name = p.by_name; may_miss = p.may_miss }

-- what the parameter at a place gets
abbrev pub got_at : ℕ → List ℕ → Given → Option Value
got_at i x g = option_or (slice_get g.items i) (given_for x g.names g.values)

-- what each parameter gets, from a place on
abbrev pub got_from : ℕ → List Taken → Given → Bound
got_from i [] g = []
got_from i (p ∷ ps) g = got_at i p.name g ∷ got_from (i + 1) ps g

-- whether the arguments fit a parameter: what stands at its place, and what was given under its
-- name. It may not get both, nor a position where it is given by name alone, nor, unless it may be
-- missing, neither
abbrev pub may_get : Taken → Option Value → Option Value → Bool
may_get p (Some v) o = not p.by_name && not (is_some o)
may_get p None (Some v) = true
may_get p None None = p.may_miss

-- whether they fit each parameter, from a place on
abbrev pub may_get_all : ℕ → List Taken → Given → Bool
may_get_all i [] g = true
may_get_all i (p ∷ ps) g =
    may_get p (slice_get g.items i) (given_for p.name g.names g.values)
    && may_get_all (i + 1) ps g

-- what takes one position doesn't take these
abbrev pub IsNotOne : List Value → Type 0
IsNotOne vs = (f : Value → Op Value) (s : State) → with_one f vs s ≡ Err Arity

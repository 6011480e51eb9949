-- The arguments of a call of what isn't written in Starlark, and what each parameter gets of them.
-- (Starlark's specification, "Function and method calls".)
use Rattle.std.specs.Prelude.{ℕ, Bool, true, false, List, [], ◌∷◌, Option, Some}
use Rattle.std.specs.Prelude.{None, Result, Ok, Err, bytes_eq, is_some, if◌then◌else◌}
use Rattle.std.specs.List.{list_any, list_all}
use Rattle.values.specs.declared.value.Value.{Value}
use Rattle.ticks.specs.declared.ticks.Kind.{Kind}
use Rattle.ticks.specs.declared.ticks.Kind.TheVariants.{Arity}
use Rattle.first_places.specs.Places.{place_named}
use Rattle.operations.specs.Items.{at_place}
use Rattle.operations.specs.declared.arguments.Arguments.{Arguments}

-- the arguments of a call: those by position, and those by name, in the order of the text: names
-- and values stand by place
pub record Given : Type 0 where
  pub items : List Value
  pub names : List (List ℕ)
  pub values : List Value

-- the arguments that a call holds
abbrev pub given : Arguments → Given
given a = record { items = a.items.now; names = a.names.now; values = a.values.now }

-- what was given under a name
abbrev pub given_for : List ℕ → List (List ℕ) → List Value → Option Value
given_for x ns vs = at_place vs (place_named x ns)

-- a parameter: whether it is given by name alone, and whether it may be missing
pub record Parameter : Type 0 where
  pub name : List ℕ
  pub by_name : Bool
  pub may_miss : Bool

-- what each parameter of a call got; None where it is missing
abbrev pub Bound : Type 0
Bound = List (Option Value)

-- what the first parameter got, before what the others got, if there is no fault in them
abbrev pub put_first : Option Value → Result Bound Kind → Result Bound Kind
put_first o (Ok os) = Ok (o ∷ os)
put_first o (Err k) = Err k

-- a parameter that no position is left for
abbrev pub named_or_missing : Parameter → Option Value → Result Bound Kind → Result Bound Kind
named_or_missing p (Some v) rest = put_first (Some v) rest
named_or_missing p None rest = if p.may_miss then put_first None rest else Err Arity

-- positions go to the parameters in order, but not to one that is given by name alone
abbrev pub filled : List Parameter → List Value → (List ℕ → Option Value) → Result Bound Kind
filled [] [] named = Ok []
filled [] (v ∷ vs) named = Err Arity
filled (p ∷ ps) [] named = named_or_missing p (named p.name) (filled ps [] named)
filled (p ∷ ps) (v ∷ vs) named =
    if p.by_name then Err Arity else
    if is_some (named p.name) then Err Arity else
    put_first (Some v) (filled ps vs named)

-- each name is one of a parameter
abbrev pub all_known : List Parameter → List (List ℕ) → Bool
all_known ps names = list_all (λ n. list_any (λ p. bytes_eq n p.name) ps) names

-- what the parameters get, or `arity`
abbrev pub bound : List Parameter → Given → Result Bound Kind
bound ps g =
    if all_known ps g.names then filled ps g.items (λ x. given_for x g.names g.values)
    else Err Arity

-- a parameter that may be given by position or by name, and has to be
abbrev pub wanted : List ℕ → Parameter
wanted x = record { name = x; by_name = false; may_miss = false }

-- one that is given by name alone, and has to be
abbrev pub wanted_by_name : List ℕ → Parameter
wanted_by_name x = record { name = x; by_name = true; may_miss = false }

-- one that may be missing
abbrev pub optional : List ℕ → Parameter
optional x = record { name = x; by_name = false; may_miss = true }

-- one that is given by name alone, if at all
abbrev pub named_only : List ℕ → Parameter
named_only x = record { name = x; by_name = true; may_miss = true }

-- what a call of one parameter does with its argument
abbrev pub one : {A : Type 0} → (Value → Result A Kind) → Bound → Result A Kind
one f (Some v ∷ []) = f v
one f _ = Err Arity

-- positions alone: any name is `arity`
abbrev pub unless_named : List (List ℕ) → List Value → Result (List Value) Kind
unless_named [] vs = Ok vs
unless_named (n ∷ ns) vs = Err Arity

-- the arguments of a call that takes no names, as those of `range` and of methods
abbrev pub positions : Given → Result (List Value) Kind
positions g = unless_named g.names g.items

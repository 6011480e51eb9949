-- What one parameter gets, and whether all fit. (Starlark specification, "Function and method
-- calls"; slots and the stack are this project's own.)
use Rattle.std.specs.Prelude.{ℕ, zero, suc, Bool, true, false, Option, Some, None, option_map, List}
use Rattle.std.specs.Prelude.{[], ◌∷◌, ◌++◌, drop, bytes_eq, slice_get}
use Rattle.std.specs.Map.{lookup}
use Rattle.program_tree.specs.Names.{Name, or_else}
use Rattle.meaning.specs.Operations.{Arguments}
use Rattle.meaning.specs.Outcome.{Slots}
use Rattle.meaning.specs.Entry.{defaults_of, filled}

-- a value by position, unless there is one by name
abbrev pub unless : {V : Type 0} → Option V → V → Option V
unless None v = Some v
unless (Some w) v = None

-- a parameter gets its value by position, if it has none by its name; or the one by its name, or
-- its default
abbrev pub got : {V : Type 0} → Name → Option V → List (Name × V) → Option V → Option V
got p (Some v) named d = unless (lookup (bytes_eq p) named) v
got p None named d = or_else (lookup (bytes_eq p) named) d

-- the default of a parameter by its place, where the first ones, so many, have none
abbrev pub default_at : {V : Type 0} → ℕ → ℕ → List V → Option V
default_at zero i ds = slice_get ds i
default_at (suc n) zero ds = None
default_at (suc n) (suc i) ds = default_at n i ds

-- the slots, where the arguments fit
abbrev pub fitting : {A : Type 0} → Bool → A → Option A
fitting true slots = Some slots
fitting false slots = None

-- so many values of the top, the topmost one last, before others
abbrev pub top_of : {V : Type 0} → ℕ → List V → List V → List V
top_of zero vs os = vs
top_of (suc n) vs [] = vs
top_of (suc n) vs (v ∷ os) = top_of n (v ∷ vs) os

-- arguments by position alone
abbrev pub by_position : {V : Type 0} → List V → Arguments V
by_position vs = record { items = vs; named = [] }

-- these slots stand before others
abbrev pub behind : {V : Type 0} → Slots V → Option (Slots V) → Option (Slots V)
behind l = option_map (λ r. l ++ r)

-- what the parameters from this one on get where they have no arguments
abbrev pub rest_filled : {V : Type 0} → List Name → ℕ → List V → Option (Slots V)
rest_filled params i ds = filled (drop i params) [] [] (drop i (defaults_of params ds))

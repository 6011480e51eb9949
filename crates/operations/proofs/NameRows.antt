-- Worked reads and bindings of names, and calls of what stands in tables, by computation.
use Rattle.std.specs.Prelude.{◌≡◌, ℕ, zero, suc, pos, List, [], ◌∷◌, Option, Some, None, Ok, Err, refl, codes}
use Rattle.leaves.specs.declared.leaf.BuiltIn.TheVariants as built_in
use Rattle.leaves.specs.declared.leaf.MadeId.{MadeId}
use Rattle.keys.specs.declared.key.Key.TheVariants as index
use Rattle.values.specs.declared.value.Value.{Value}
use Rattle.values.specs.declared.value.Value.TheVariants as value
use Rattle.values.specs.declared.cells.Cell.TheVariants as cell
use Rattle.ticks.specs.declared.ticks.Kind.TheVariants as kind
use Rattle.operations.specs.declared.state.State.{State}
use Rattle.operations.specs.declared.method.Method.TheVariants as method
use Rattle.operations.specs.Making.{new_dict}
use Rattle.operations.specs.Names.{Linked, global, set_global, set_loaded, load, define, defaults, function_made, function_of}
use Rattle.operations.specs.Arguments.{Given}
use Rattle.operations.specs.Calls.{built_in_call, method_call}
use Rattle.operations.proofs.Rows.{with_cells, one, two, list_at}

abbrev at : List Value → Given
at vs = record { items = vs; names = []; values = [] }

-- file 0, with two names of its own, of which the first is bound, and one that a load binds
abbrev named : State
named = record (with_cells [] 0) { globals = Some one ∷ None ∷ None ∷ []; loaded = None ∷ None ∷ Some two ∷ [] }

abbrev two_at_one : ℕ → Option Value
two_at_one (suc zero) = Some two
two_at_one _ = None

-- file 1 has a name of number 1, and its function 0 has a default
abbrev others : Linked
others = record {
  names = λ f n. two_at_one n;
  defaults = λ id. one ∷ [];
  asked = λ f label x. Some one;
}

-- one that is bound, one that a load binds, one that isn't bound yet, and one that is none
bound_one : global others 0 0 named ≡ Ok (one, named)
bound_one = refl

loaded_one : global others 0 2 named ≡ Ok (two, named)
loaded_one = refl

unset_one : global others 0 1 named ≡ Err kind.Unset
unset_one = refl

no_name : global others 0 3 named ≡ Err kind.Unset
no_name = refl

-- names of another file
of_another : global others 1 1 named ≡ Ok (two, named)
of_another = refl

unset_there : global others 1 0 named ≡ Err kind.Unset
unset_there = refl

-- a name is bound: of this file, and of another nothing is
then_bound : set_global 0 1 two named ≡ record named { globals = Some one ∷ Some two ∷ None ∷ [] }
then_bound = refl

not_of_another : set_global 1 1 two named ≡ named
not_of_another = refl

then_loaded : set_loaded 0 0 one named ≡ record named { loaded = Some one ∷ None ∷ Some two ∷ [] }
then_loaded = refl

-- `load(":r.bzl", "x")`, where there is such a name, and where there is none
load_gives : load others 0 (codes ":r.bzl") (codes "x") named ≡ Ok (one, named)
load_gives = refl

load_fails : load (record others { asked = λ f label x. None }) 0 (codes ":r.bzl") (codes "x") named ≡ Err kind.Unset
load_fails = refl

-- `def f(a = 2)`, the function 0 of this file, and its defaults; those of another file
abbrev f_of : ℕ → MadeId
f_of m = record { «module» = m; number = 0 }

abbrev one_function : State
one_function = record (with_cells [] 0) { defaults = [] ∷ [] }

keeps_defaults : define (f_of 0) (codes "f") (two ∷ []) one_function
    ≡ Ok (function_made (f_of 0) (codes "f") one_function, record one_function { defaults = (two ∷ []) ∷ [] })
keeps_defaults = refl

own_defaults : defaults others (f_of 0) (record one_function { defaults = (two ∷ []) ∷ [] }) ≡ two ∷ []
own_defaults = refl

their_defaults : defaults others (f_of 1) one_function ≡ one ∷ []
their_defaults = refl

is_function : function_of (function_made (f_of 1) (codes "f") named) ≡ Some (f_of 1)
is_function = refl

is_none : function_of one ≡ None
is_none = refl

-- `{}`
empty_dict : new_dict (with_cells [] 0) ≡ Ok (list_at, with_cells (cell.Dict [] 0 ∷ []) 0)
empty_dict = refl

-- `d.values()` gives a new list, `d.values(1)` is `arity`
its_values : method_call method.Values list_at (at []) (with_cells (cell.Dict ((index.Number (pos 1), two) ∷ []) 0 ∷ []) 0)
    ≡ Ok (value.Cell 1, with_cells (cell.Dict ((index.Number (pos 1), two) ∷ []) 0 ∷ cell.List (two ∷ []) 0 ∷ []) 0)
its_values = refl

no_argument : method_call method.Values list_at (at (one ∷ [])) (with_cells (cell.Dict [] 0 ∷ []) 0) ≡ Err kind.Arity
no_argument = refl

-- `provider` and `rule` are calls of one place
of_modules : built_in_call built_in.Provider (at []) ≡ None
of_modules = refl

rules_too : built_in_call built_in.Rule (at []) ≡ None
rules_too = refl

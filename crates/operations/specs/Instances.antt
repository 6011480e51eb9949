-- Instances of providers. (Bazel's documentation of providers and of `DefaultInfo`; that every
-- provider has `fields`, and what is refused, is this project's own.)
use Rattle.std.specs.Prelude.{ℕ, Bool, List, [], ◌∷◌, map, Option, Some, None, Result}
use Rattle.std.specs.Prelude.{Ok, Err, bytes_eq, codes, if◌then◌else◌}
use Rattle.std.specs.List.{list_any, list_all}
use Rattle.depsets.specs.Rose.{Rose}
use Rattle.depsets.specs.Own.{Own}
use Rattle.depsets.specs.Elements.{elements, all_of_type}
use Rattle.depsets.specs.declared.depset.Order.TheVariants as order
use Rattle.depsets.specs.declared.element.ElementType.TheVariants.{File}
use Rattle.heap.specs.Cells.{made}
use Rattle.values.specs.Shape.{Shape, shape}
use Rattle.leaves.specs.declared.leaf.Provider.{Provider}
use Rattle.leaves.specs.declared.leaf.ProviderRef.TheVariants as provider
use Rattle.values.specs.declared.value.Value.{Value}
use Rattle.values.specs.declared.cells.Cell.TheVariants as cell
use Rattle.ticks.specs.declared.ticks.Kind.{Kind}
use Rattle.ticks.specs.declared.ticks.Kind.TheVariants as kind
use Rattle.operations.specs.States.{Op, with_heap, then_do, then_give}
use Rattle.operations.specs.Reading.{depset_in, of_type}
use Rattle.operations.specs.Arguments.{Given, Parameter, Bound, named_only, bound, given_for}
use Rattle.operations.specs.Depsets.{new_depset}

-- each name is one of the provider's
abbrev pub are_fields : List (List ℕ) → List (List ℕ) → Bool
are_fields fields names = list_all (λ n. list_any (bytes_eq n) fields) names

-- what each field got, in the order of the provider's; None where it wasn't given
abbrev pub given_fields : List (List ℕ) → List (List ℕ) → List Value → List (Option Value)
given_fields fields names values = map (λ x. given_for x names values) fields

-- a new instance of a provider, which takes the next cell
abbrev pub new_instance : Provider → List (Option Value) → Op Value
new_instance p xs s = with_heap s (made s.heap (cell.Instance p xs) 0)

-- P(a = v, ..): a position, or a name that is none of the provider's fields, is `arity`. The values
-- themselves are kept.
abbrev pub with_fields : Provider → List (List ℕ) → List Value → Op Value
with_fields p names values s =
    if are_fields p.fields names then new_instance p (given_fields p.fields names values) s
    else Err kind.Arity

-- any position is `arity`
abbrev pub unless_placed : List Value → Op Value → Op Value
unless_placed [] f s = f s
unless_placed (v ∷ vs) f s = Err kind.Arity

-- the call of a provider that a module makes
abbrev pub constructed : Provider → Given → Op Value
constructed p g s = unless_placed g.items (with_fields p g.names g.values) s

-- the provider that every file knows
abbrev pub default_info : Provider
default_info = record { id = None; name = provider.DefaultInfo; fields = codes "files" ∷ [] }

-- DefaultInfo(*, files = depset())
abbrev pub default_info_parameters : List Parameter
default_info_parameters = named_only (codes "files") ∷ []

-- a depset that is empty or of Files
abbrev pub only_files : Rose Own → Result (Rose Own) Kind
only_files d = if all_of_type File (elements d) then Ok d else Err kind.Wrong

-- what `DefaultInfo` may be given as `files`
abbrev pub files_in : Shape → Result (Rose Own) Kind
files_in v = of_type (depset_in v) only_files

-- the instance of `DefaultInfo` with these files
abbrev pub with_files : Provider → Value → Op Value
with_files p v s = new_instance p (Some v ∷ []) s

-- goes on where a test passed, and else has its fault
abbrev pub if_ok : {A B : Type 0} → Result A Kind → Op B → Op B
if_ok (Ok a) f s = f s
if_ok (Err k) f s = Err k

-- the default depset is a new one, with the next serial
abbrev pub with_new_files : Provider → Op Value
with_new_files p s = then_do (new_depset order.Default [] [] s) (with_files p)

-- the instance, once it is known what the parameter got; the provider is `DefaultInfo`
abbrev pub info_with : Provider → Option Value → Op Value
info_with p (Some v) s = if_ok (files_in (shape s.heap v)) (with_files p v) s
info_with p None s = with_new_files p s

-- the instance, or the fault of the arguments
abbrev pub info_of : Provider → Result (Option Value) Kind → Op Value
info_of p (Ok o) s = info_with p o s
info_of p (Err k) s = Err k

-- what a call of one parameter got, which may be missing
abbrev pub only : Bound → Result (Option Value) Kind
only (o ∷ []) = Ok o
only _ = Err kind.Arity

-- the call of `DefaultInfo`
abbrev pub new_default_info : Provider → Given → Op Value
new_default_info p g s = info_of p (then_give (bound default_info_parameters g) only) s

-- The call of `provider` (Bazel documentation, "provider"; that `fields` has to be there, and what
-- is refused, is this project's own; docs/PROFILE.md, "Calls for providers and rules").
use Rattle.std.specs.Prelude.{ℕ, ◌+◌, Bool, true, false, not, ◌&&◌, List, [], ◌∷◌, Option, Some}
use Rattle.std.specs.Prelude.{None, option_and_then, Result, Ok, Err, codes, bytes_eq}
use Rattle.std.specs.Prelude.{if◌then◌else◌}
use Rattle.std.specs.List.{list_any}
use Rattle.values.specs.Shape.{Shape, key, items, entries, shape}
use Rattle.values.specs.declared.cells.Cell.{Cell}
use Rattle.keys.specs.declared.key.Key.{Key}
use Rattle.leaves.specs.declared.leaf.ExportName.TheVariants as export
use Rattle.leaves.specs.declared.leaf.Leaf.TheVariants as plain
use Rattle.leaves.specs.declared.leaf.Provider.{Provider}
use Rattle.leaves.specs.declared.leaf.ProviderRef.TheVariants as provider
use Rattle.ticks.specs.declared.ticks.Kind.{Kind}
use Rattle.ticks.specs.declared.ticks.Kind.TheVariants.{Wrong, Arity}
use Rattle.values.specs.declared.value.Value.{Value}
use Rattle.values.specs.declared.value.Value.TheVariants as value
use Rattle.operations.specs.Arguments.{Given, Parameter, Bound, optional, wanted_by_name, bound}
use Rattle.operations.specs.Reading.{string_in}
use Rattle.operations.specs.declared.state.State.{State}
use Rattle.targets.specs.RuleCalls.{each_of}
use Rattle.declaring.specs.NewNames.{name_in, may_be_doc}
use Rattle.targets.specs.declared.declarations.Declarations.{Declarations}

-- provider(doc = "", *, fields)
abbrev pub provider_parameters : List Parameter
provider_parameters = optional (codes "doc") ∷ wanted_by_name (codes "fields") ∷ []

-- whether no name of a field stands twice
abbrev pub are_distinct : List (List ℕ) → Bool
are_distinct [] = true
are_distinct (n ∷ ns) = not (list_any (bytes_eq n) ns) && are_distinct ns

-- the names of the fields of a list or a tuple, unless one stands twice
abbrev pub if_distinct : List (List ℕ) → Option (List (List ℕ))
if_distinct ns = if are_distinct ns then Some ns else None

-- the name of an entry whose value is a string, which isn't used
abbrev pub documented_name : List Cell → Key × Value → Option (List ℕ)
documented_name h e = option_and_then (λ t. name_in (key e.0)) (string_in (shape h e.1))

-- the fields: a sequence of distinct names, or a dict from names to strings
abbrev pub fields_in : List Cell → Shape → Option (List (List ℕ))
fields_in h (items j xs) = option_and_then if_distinct (each_of (λ v. name_in (shape h v)) xs)
fields_in h (entries es) = each_of (documented_name h) es
fields_in h _ = None

-- the next provider of the module that is evaluated; until its end it is called by its number
abbrev pub next_provider : State → Declarations → List (List ℕ) → Provider
next_provider s d fields = record {
  id = Some (record { «module» = s.file; number = d.providers });
  name = provider.Exported (record { path = s.owner; name = export.Making d.providers });
  fields = fields;
}

-- one more provider of the module, so that the next number is taken
abbrev pub with_provider : Declarations → Declarations
with_provider d = record d { providers = d.providers + 1 }

-- the provider that the call gives, and the declarations then, by whether `doc` is right and by the
-- fields; `type` where something isn't as it has to be
abbrev pub provider_declared : State → Declarations → Bool → Option (List (List ℕ))
    → Result (Value × Declarations) Kind
provider_declared s d true (Some fields) =
    Ok (value.Leaf (plain.Provider (next_provider s d fields)), with_provider d)
provider_declared s d _ _ = Err Wrong

-- the call of `provider`, with what each parameter got
abbrev pub provider_with : State → Declarations → Result Bound Kind
    → Result (Value × Declarations) Kind
provider_with s d (Ok (doc ∷ Some fields ∷ [])) =
    provider_declared s d (may_be_doc s.heap doc) (fields_in s.heap (shape s.heap fields))
provider_with s d (Ok _) = Err Arity
provider_with s d (Err k) = Err k

-- the call of `provider`
abbrev pub new_provider : Given → State → Declarations → Result (Value × Declarations) Kind
new_provider g s d = provider_with s d (bound provider_parameters g)

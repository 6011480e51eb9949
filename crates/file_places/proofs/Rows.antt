-- Worked calls in modules and in `BUILD` files, by computation.
use Rattle.std.specs.Prelude.{◌≡◌, ℕ, true, false, List, [], ◌∷◌, Option, Some, None, Ok, Err, refl, codes}
use Rattle.leaves.specs.declared.leaf.AttributeKind.TheVariants as kind
use Rattle.leaves.specs.declared.leaf.BuiltIn.TheVariants as built_in
use Rattle.leaves.specs.declared.leaf.ExportName.TheVariants as export
use Rattle.leaves.specs.declared.leaf.Leaf.{Leaf}
use Rattle.leaves.specs.declared.leaf.Leaf.TheVariants as plain
use Rattle.leaves.specs.declared.leaf.MadeId.{MadeId}
use Rattle.leaves.specs.declared.leaf.Object.TheVariants as object
use Rattle.ticks.specs.declared.ticks.Kind.TheVariants as fault
use Rattle.operations.specs.Arguments.{Given}
use Rattle.operations.specs.Making.{none, text}
use Rattle.operations.specs.declared.state.State.{State}
use Rattle.workspace.specs.Paths.{are_segments}
use Rattle.language.specs.Place.{Place}
use Rattle.language.specs.declared.whole.Whole.{Whole}
use Rattle.targets.specs.declared.attributes.AllowFiles.TheVariants as allowed
use Rattle.targets.specs.declared.attributes.Attribute.{Attribute}
use Rattle.targets.specs.declared.attributes.Rule.{Rule}
use Rattle.declaring.specs.AttributeCalls.{attribute_value}
use Rattle.targets.specs.declared.declarations.Declarations.{Declarations}
use Rattle.rule_calls.specs.Packages.{Declared}
use Rattle.file_places.specs.ModulePlace.{module_place}
use Rattle.file_places.specs.BuildPlace.{build_place}

abbrev evaluation : List ℕ → State
evaluation path = record { heap = []; ticks = record { limit = 5; used = 0 }; owner = path; depsets = 0; file = 0; globals = []; loaded = []; defaults = [] }

abbrev nothing : Given
nothing = record { items = []; names = []; values = [] }

abbrev attr : Leaf
attr = plain.Object object.Attr

abbrev r : Leaf
r = plain.Rule (record { id = record { «module» = 0; number = 0 }; name = record { path = codes "a/r.bzl"; name = export.Global (codes "r") } })

-- ---- a module

abbrev no_attributes : List ℕ → ℕ → Option Attribute
no_attributes path n = None

abbrev in_module : Place Declarations
in_module = module_place no_attributes

abbrev of_module : List Attribute → Whole Declarations
of_module attributes = record { state = evaluation (codes "a/r.bzl"); work = record { providers = 0; rules = []; attributes = attributes } }

abbrev bool : Attribute
bool = record { kind = kind.Bool; default = None; mandatory = false; values = []; providers = []; allow_files = allowed.Nothing }

-- attr.bool()
declares : in_module.method attr (codes "bool") nothing (of_module []) ≡ Ok (attribute_value (evaluation (codes "a/r.bzl")) kind.Bool 0, of_module (bool ∷ []))
declares = refl

-- attr.foo is `name` before it is called, and attr.bool is no field
no_method : in_module.has_method attr (codes "foo") ≡ false
no_method = refl

no_field : in_module.field attr (codes "bool") (of_module []) ≡ Err fault.Name
no_field = refl

-- r(), and provider() without `fields`
rule_in_module : in_module.call r nothing (of_module []) ≡ Err fault.Place
rule_in_module = refl

provider_in_module : in_module.call (plain.BuiltIn built_in.Provider) nothing (of_module []) ≡ Err fault.Arity
provider_in_module = refl

-- ---- a `BUILD` file

abbrev rule : Rule
rule = record { implementation = record { id = record { «module» = 0; number = 0 }; path = codes "a/r.bzl"; name = codes "_r" }; attributes = [] }

abbrev rules : MadeId → Option Rule
rules id = Some rule

abbrev in_build : Place Declared
in_build = build_place rules

abbrev of_build : Declared → Whole Declared
of_build d = record { state = evaluation (codes "a/BUILD"); work = d }

abbrev package_a : Declared
package_a = record { «package» = codes "a"; targets = [] }

-- r(name = "x")
declares_target : in_build.call r (record { items = []; names = codes "name" ∷ []; values = text (codes "x") ∷ [] }) (of_build package_a)
    ≡ Ok (none, of_build (record { «package» = codes "a"; targets = record { label = record { «package» = codes "a"; name = codes "x" }; rule = rule; values = [] } ∷ [] }))
unfolding are_segments
declares_target = refl

-- provider(), attr.bool(): `place` before `arity`; attr.foo is `name` here too
provider_in_build : in_build.call (plain.BuiltIn built_in.Provider) nothing (of_build package_a) ≡ Err fault.Place
provider_in_build = refl

attr_in_build : in_build.method attr (codes "bool") (record nothing { items = none ∷ [] }) (of_build package_a) ≡ Err fault.Place
attr_in_build = refl

attr_has : in_build.has_method attr (codes "bool") ≡ true
attr_has = refl

no_method_in_build : in_build.has_method attr (codes "foo") ≡ false
no_method_in_build = refl

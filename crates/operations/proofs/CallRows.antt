-- Worked calls, by computation: their arguments, depsets and instances.
use Rattle.std.specs.Prelude.{◌≡◌, ◌-◌, ◌^◌, pos, List, [], ◌∷◌, Some, None, Ok, Err, refl, codes, true}
use Rattle.depsets.specs.declared.depset.Order.TheVariants as order
use Rattle.depsets.specs.declared.element.Element.TheVariants as element
use Rattle.leaves.specs.declared.leaf.Leaf.TheVariants as plain
use Rattle.leaves.specs.declared.leaf.Provider.{Provider}
use Rattle.leaves.specs.declared.leaf.ProviderRef.TheVariants as provider
use Rattle.leaves.specs.declared.leaf.ExportName.TheVariants as export
use Rattle.values.specs.declared.value.Value.{Value}
use Rattle.values.specs.declared.value.Value.TheVariants as value
use Rattle.values.specs.declared.cells.Cell.{Cell}
use Rattle.values.specs.declared.cells.Cell.TheVariants as cell
use Rattle.ticks.specs.declared.ticks.Kind.TheVariants as kind
use Rattle.operations.specs.Making.{none, truth, number, text}
use Rattle.operations.specs.Arguments.{Given, Parameter, wanted, optional, named_only, bound}
use Rattle.operations.specs.Depsets.{depset, next_depset, to_list}
use Rattle.operations.specs.Fields.{field}
use Rattle.operations.specs.Instances.{constructed, new_default_info, default_info}
use Rattle.operations.proofs.Rows.{with_cells, one, two, list_at}

abbrev at : List Value → Given
at vs = record { items = vs; names = []; values = [] }

-- f(a, b = ..): by position, by name, in excess, twice, missing, unknown
abbrev parameters : List Parameter
parameters = wanted (codes "a") ∷ optional (codes "b") ∷ named_only (codes "c") ∷ []

by_position : bound parameters (at (one ∷ two ∷ [])) ≡ Ok (Some one ∷ Some two ∷ None ∷ [])
by_position = refl

by_name : bound parameters (record { items = one ∷ []; names = codes "c" ∷ []; values = two ∷ [] }) ≡ Ok (Some one ∷ None ∷ Some two ∷ [])
by_name = refl

in_excess : bound parameters (at (one ∷ two ∷ one ∷ [])) ≡ Err kind.Arity
in_excess = refl

given_twice : bound parameters (record { items = one ∷ []; names = codes "a" ∷ []; values = two ∷ [] }) ≡ Err kind.Arity
given_twice = refl

missing_one : bound parameters (record { items = []; names = codes "b" ∷ []; values = two ∷ [] }) ≡ Err kind.Arity
missing_one = refl

unknown_one : bound parameters (record { items = one ∷ []; names = codes "d" ∷ []; values = two ∷ [] }) ≡ Err kind.Arity
unknown_one = refl

-- the first depset has serial 1
first_serial : depset (at []) (with_cells [] 0)
    ≡ Ok (value.Leaf (plain.Depset (next_depset order.Default [] [] (with_cells [] 0))), record (with_cells [] 0) { depsets = 1 })
first_serial = refl

-- `depset([1, True])`, `depset(None)`, and an order that isn't one
mixed : depset (at (list_at ∷ [])) (with_cells (cell.List (one ∷ truth true ∷ []) 0 ∷ []) 0) ≡ Err kind.Wrong
mixed = refl

no_sequence : depset (at (none ∷ [])) (with_cells [] 0) ≡ Err kind.Wrong
no_sequence = refl

no_order : depset (record { items = []; names = codes "order" ∷ []; values = text (codes "topological") ∷ [] }) (with_cells [] 0) ≡ Err kind.Wrong
no_order = refl

-- a `postorder` depset with a `preorder` child; `type` comes first
orders : depset (record { items = list_at ∷ text (codes "postorder") ∷ []; names = codes "transitive" ∷ []; values = value.Cell 1 ∷ [] })
    (with_cells (cell.List [] 0 ∷ cell.List (value.Leaf (plain.Depset (next_depset order.Preorder [] [] (with_cells [] 0))) ∷ []) 0 ∷ []) 0)
    ≡ Err kind.Order
orders = refl

type_before_order : depset (record { items = list_at ∷ text (codes "postorder") ∷ []; names = codes "transitive" ∷ []; values = value.Cell 1 ∷ [] })
    (with_cells (cell.List (none ∷ []) 0 ∷ cell.List (value.Leaf (plain.Depset (next_depset order.Preorder [] [] (with_cells [] 0))) ∷ []) 0 ∷ []) 0)
    ≡ Err kind.Wrong
type_before_order = refl

-- no serial is left
last_serial : depset (at []) (record (with_cells [] 0) { depsets = 2 ^ 64 - 1 }) ≡ Err kind.Large
last_serial = refl

-- P = provider(fields = ["m", "n"]): P(n = 2), P(1), P(o = 1)
abbrev P : Provider
P = record { id = Some (record { «module» = 0; number = 0 }); name = provider.Exported (record { path = codes "a/f.bzl"; name = export.Global (codes "P") }); fields = codes "m" ∷ codes "n" ∷ [] }

one_field : constructed P (record { items = []; names = codes "n" ∷ []; values = two ∷ [] }) (with_cells [] 0)
    ≡ Ok (value.Cell 0, with_cells (cell.Instance P (None ∷ Some two ∷ []) ∷ []) 0)
one_field = refl

no_position : constructed P (at (one ∷ [])) (with_cells [] 0) ≡ Err kind.Arity
no_position = refl

other_name : constructed P (record { items = []; names = codes "o" ∷ []; values = two ∷ [] }) (with_cells [] 0) ≡ Err kind.Arity
other_name = refl

-- a field that was given, one that wasn't, and one that isn't there
read_field : field list_at (codes "n") (with_cells (cell.Instance P (None ∷ Some two ∷ []) ∷ []) 0)
    ≡ Ok (two, with_cells (cell.Instance P (None ∷ Some two ∷ []) ∷ []) 0)
read_field = refl

not_given : field list_at (codes "m") (with_cells (cell.Instance P (None ∷ Some two ∷ []) ∷ []) 0) ≡ Err kind.Name
not_given = refl

no_field : field list_at (codes "o") (with_cells (cell.Instance P (None ∷ Some two ∷ []) ∷ []) 0) ≡ Err kind.Name
no_field = refl

-- DefaultInfo() takes a serial for its depset; DefaultInfo(files = [1]) is `type`
empty_info : new_default_info default_info (at []) (with_cells [] 0)
    ≡ Ok (value.Cell 0, record (with_cells (cell.Instance default_info (Some (value.Leaf (plain.Depset (next_depset order.Default [] [] (with_cells [] 0)))) ∷ []) ∷ []) 0) { depsets = 1 })
empty_info = refl

-- its depset's serial has a limit, as any depset's has
last_info : new_default_info default_info (at []) (record (with_cells [] 0) { depsets = 2 ^ 64 - 1 }) ≡ Err kind.Large
last_info = refl

no_depset : new_default_info default_info (record { items = []; names = codes "files" ∷ []; values = list_at ∷ [] }) (with_cells (cell.List (one ∷ []) 0 ∷ []) 0)
    ≡ Err kind.Wrong
no_depset = refl

-- a listing as a list
listed : to_list (next_depset order.Default (element.Number (pos 1) ∷ element.Number (pos 2) ∷ element.Number (pos 1) ∷ []) [] (with_cells [] 0)) (with_cells [] 0)
    ≡ Ok (value.Cell 0, with_cells (cell.List (one ∷ two ∷ []) 0 ∷ []) 0)
listed = refl

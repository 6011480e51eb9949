-- Worked calls of `attr`, `provider` and `rule`, by computation.
use Rattle.std.specs.Prelude.{◌≡◌, ℕ, pos, true, false, List, [], ◌∷◌, Option, Some, None, Result, Ok, Err, refl, codes}
use Rattle.values.specs.declared.cells.Cell.{Cell}
use Rattle.values.specs.declared.cells.Cell.TheVariants as cell
use Rattle.keys.specs.declared.key.Key.{Key}
use Rattle.keys.specs.declared.key.Key.TheVariants as index
use Rattle.lexer.specs.Begins.{begins}
use Rattle.leaves.specs.declared.leaf.AttributeKind.{AttributeKind}
use Rattle.leaves.specs.declared.leaf.AttributeKind.TheVariants as kind
use Rattle.leaves.specs.declared.leaf.BuiltIn.TheVariants as built_in
use Rattle.leaves.specs.declared.leaf.ExportName.TheVariants as export
use Rattle.leaves.specs.declared.leaf.FunctionRef.{FunctionRef}
use Rattle.leaves.specs.declared.leaf.Leaf.TheVariants as plain
use Rattle.leaves.specs.declared.leaf.Provider.{Provider}
use Rattle.leaves.specs.declared.leaf.ProviderRef.TheVariants as provider
use Rattle.ticks.specs.declared.ticks.Kind.{Kind}
use Rattle.ticks.specs.declared.ticks.Kind.TheVariants as fault
use Rattle.values.specs.declared.value.Value.{Value}
use Rattle.values.specs.declared.value.Value.TheVariants as value
use Rattle.operations.specs.Arguments.{Given}
use Rattle.operations.specs.Instances.{default_info}
use Rattle.operations.specs.Making.{none, truth, number, text}
use Rattle.operations.specs.declared.state.State.{State}
use Rattle.workspace.specs.Labels.{LabelParts}
use Rattle.workspace.specs.Paths.{are_segments}
use Rattle.targets.specs.TextDicts.{entry_of}
use Rattle.targets.specs.declared.attributes.AllowFiles.TheVariants as allowed
use Rattle.targets.specs.declared.attributes.Attribute.{Attribute}
use Rattle.targets.specs.declared.attributes.AttributeValue.TheVariants as has
use Rattle.targets.specs.declared.attributes.NamedAttribute.{NamedAttribute}
use Rattle.declaring.specs.AttributeCalls.{attribute_value, new_attribute}
use Rattle.declaring.specs.ProviderCalls.{new_provider}
use Rattle.declaring.specs.RuleMaking.{next_rule, new_rule}
use Rattle.targets.specs.declared.declarations.Declarations.{Declarations}

-- a module's evaluation with these cells
abbrev evaluation : List Cell → State
evaluation h = record { heap = h; ticks = record { limit = 5; used = 0 }; owner = codes "a/r.bzl"; depsets = 0; file = 3; globals = []; loaded = []; defaults = [] }

abbrev nothing_yet : Declarations
nothing_yet = record { providers = 0; rules = []; attributes = [] }

abbrev call : List (List ℕ) → List Value → Given
call names values = record { items = []; names = names; values = values }

abbrev with_one : List ℕ → Value → Given
with_one x v = call (x ∷ []) (v ∷ [])

-- the list, the tuple in a cell
abbrev at : ℕ → Value
at n = value.Cell n

abbrev list : List Value → Cell
list vs = cell.List vs 0

abbrev string : List ℕ → Value
string t = text t

abbrev other : LabelParts
other = record { «package» = codes "c"; name = codes "d" }

-- ---- attributes

abbrev attribute : AttributeKind → Given → List Cell → Result (Value × Declarations) Kind
attribute k g h = new_attribute k g (evaluation h) nothing_yet

abbrev plainly : AttributeKind → Attribute
plainly k = record { kind = k; default = None; mandatory = false; values = []; providers = []; allow_files = allowed.Nothing }

abbrev made : AttributeKind → List Cell → Attribute → Result (Value × Declarations) Kind
made k h a = Ok (attribute_value (evaluation h) k 0, record { providers = 0; rules = []; attributes = a ∷ [] })

-- attr.string()
bare : attribute kind.String (call [] []) [] ≡ made kind.String [] (plainly kind.String)
bare = refl

-- the next one has number 1
second : new_attribute kind.Bool (call [] []) (evaluation []) (record nothing_yet { attributes = plainly kind.Int ∷ [] })
    ≡ Ok (attribute_value (evaluation []) kind.Bool 1, record { providers = 0; rules = []; attributes = plainly kind.Int ∷ plainly kind.Bool ∷ [] })
second = refl

-- attr.int(default = 7, values = (1, 2), mandatory = True, doc = None): a default isn't tested against the values
whole : attribute kind.Int (call (codes "default" ∷ codes "values" ∷ codes "mandatory" ∷ codes "doc" ∷ []) (number (pos 7) ∷ at 0 ∷ truth true ∷ none ∷ []))
    (cell.Tuple (number (pos 1) ∷ number (pos 2) ∷ []) ∷ [])
    ≡ made kind.Int (cell.Tuple (number (pos 1) ∷ number (pos 2) ∷ []) ∷ [])
    (record (plainly kind.Int) { default = Some (has.Key (index.Number (pos 7))); mandatory = true; values = index.Number (pos 1) ∷ index.Number (pos 2) ∷ [] })
whole = refl

-- attr.int(default = True), attr.string(values = [1]), attr.string(default = None), attr.bool(mandatory = None), doc = 1
bool_is_no_number : attribute kind.Int (with_one (codes "default") (truth true)) [] ≡ Err fault.Wrong
bool_is_no_number = refl

values_of_its_type : attribute kind.String (with_one (codes "values") (at 0)) (list (number (pos 1) ∷ []) ∷ []) ≡ Err fault.Wrong
values_of_its_type = refl

none_is_no_string : attribute kind.String (with_one (codes "default") none) [] ≡ Err fault.Wrong
none_is_no_string = refl

mandatory_is_a_bool : attribute kind.Bool (with_one (codes "mandatory") none) [] ≡ Err fault.Wrong
mandatory_is_a_bool = refl

doc_is_a_string : attribute kind.Bool (with_one (codes "doc") (number (pos 1))) [] ≡ Err fault.Wrong
doc_is_a_string = refl

-- `arity`: a position, a parameter of other kinds, before `type`
position : attribute kind.String (record { items = none ∷ []; names = []; values = [] }) [] ≡ Err fault.Arity
position = refl

no_values : attribute kind.Bool (call (codes "mandatory" ∷ codes "values" ∷ []) (none ∷ none ∷ [])) [] ≡ Err fault.Arity
no_values = refl

no_files : attribute kind.StringList (with_one (codes "allow_files") (truth true)) [] ≡ Err fault.Arity
no_files = refl

-- attr.string_list(default = ["b"]), and of a tuple
strings : attribute kind.StringList (with_one (codes "default") (at 0)) (list (string (codes "b") ∷ []) ∷ [])
    ≡ made kind.StringList (list (string (codes "b") ∷ []) ∷ []) (record (plainly kind.StringList) { default = Some (has.Strings (codes "b" ∷ [])) })
strings = refl

strings_no_tuple : attribute kind.StringList (with_one (codes "default") (at 0)) (cell.Tuple [] ∷ []) ≡ Err fault.Wrong
strings_no_tuple = refl

-- attr.string_dict(default = {"B": "2", "A": "\n"}), of a dict with a key that is no string, with a value that is none, of a list
abbrev dict : List (Key × Value) → Cell
dict es = cell.Dict es 0

no_files_of_dicts : attribute kind.StringDict (with_one (codes "allow_files") (truth true)) [] ≡ Err fault.Arity
no_files_of_dicts = refl

dict_bare : attribute kind.StringDict (call [] []) [] ≡ made kind.StringDict [] (plainly kind.StringDict)
dict_bare = refl

dict_of_strings : attribute kind.StringDict (with_one (codes "default") (at 0))
    (dict ((index.Text (codes "B"), string (codes "2")) ∷ (index.Text (codes "A"), string (codes "\n")) ∷ []) ∷ [])
    ≡ made kind.StringDict (dict ((index.Text (codes "B"), string (codes "2")) ∷ (index.Text (codes "A"), string (codes "\n")) ∷ []) ∷ [])
    (record (plainly kind.StringDict) { default = Some (has.StringDict (entry_of (codes "B") (codes "2") ∷ entry_of (codes "A") (codes "\n") ∷ [])) })
dict_of_strings = refl

dict_of_numbers : attribute kind.StringDict (with_one (codes "default") (at 0)) (dict ((index.Text (codes "A"), number (pos 1)) ∷ []) ∷ []) ≡ Err fault.Wrong
dict_of_numbers = refl

dict_by_numbers : attribute kind.StringDict (with_one (codes "default") (at 0)) (dict ((index.Number (pos 1), string (codes "A")) ∷ []) ∷ []) ≡ Err fault.Wrong
dict_by_numbers = refl

dict_no_list : attribute kind.StringDict (with_one (codes "default") (at 0)) (list [] ∷ []) ≡ Err fault.Wrong
dict_no_list = refl

list_no_dict : attribute kind.StringList (with_one (codes "default") (at 0)) (dict [] ∷ []) ≡ Err fault.Wrong
list_no_dict = refl

-- attr.label(default = None), of "//c:d", of ":d"
label_none : attribute kind.Label (with_one (codes "default") none) [] ≡ made kind.Label [] (record (plainly kind.Label) { default = Some (has.Label None) })
label_none = refl

label_whole : attribute kind.Label (with_one (codes "default") (string (codes "//c:d"))) []
    ≡ made kind.Label [] (record (plainly kind.Label) { default = Some (has.Label (Some other)) })
unfolding are_segments
label_whole = refl

label_relative : attribute kind.Label (with_one (codes "default") (string (codes ":d"))) [] ≡ Err fault.Wrong
unfolding are_segments
label_relative = refl

-- attr.label_list(default = ("//c:d", "//c:d")): a tuple, and a label twice
labels_twice : attribute kind.LabelList (with_one (codes "default") (at 0)) (cell.Tuple (string (codes "//c:d") ∷ string (codes "//c:d") ∷ []) ∷ [])
    ≡ made kind.LabelList (cell.Tuple (string (codes "//c:d") ∷ string (codes "//c:d") ∷ []) ∷ []) (record (plainly kind.LabelList) { default = Some (has.Labels (other ∷ other ∷ [])) })
unfolding are_segments
labels_twice = refl

-- providers = [A], [[A], []], [A, [A]], []; `DefaultInfo` is one
abbrev A : Value
A = value.Leaf (plain.Provider default_info)

abbrev asking : List Cell → List (List Provider) → Result (Value × Declarations) Kind
asking h pss = made kind.Label h (record (plainly kind.Label) { providers = pss })

one_list : attribute kind.Label (with_one (codes "providers") (at 0)) (list (A ∷ []) ∷ []) ≡ asking (list (A ∷ []) ∷ []) ((default_info ∷ []) ∷ [])
one_list = refl

two_lists : attribute kind.Label (with_one (codes "providers") (at 0)) (list (at 1 ∷ at 2 ∷ []) ∷ list (A ∷ []) ∷ cell.Tuple [] ∷ [])
    ≡ asking (list (at 1 ∷ at 2 ∷ []) ∷ list (A ∷ []) ∷ cell.Tuple [] ∷ []) ((default_info ∷ []) ∷ [] ∷ [])
two_lists = refl

mixed : attribute kind.Label (with_one (codes "providers") (at 0)) (list (A ∷ at 1 ∷ []) ∷ list (A ∷ []) ∷ []) ≡ Err fault.Wrong
mixed = refl

no_lists : attribute kind.Label (with_one (codes "providers") (at 0)) (list [] ∷ []) ≡ asking (list [] ∷ []) []
no_lists = refl

-- allow_files = True, [".md"], None
any_file : attribute kind.Label (with_one (codes "allow_files") (truth true)) [] ≡ made kind.Label [] (record (plainly kind.Label) { allow_files = allowed.Any })
any_file = refl

some_files : attribute kind.Label (with_one (codes "allow_files") (at 0)) (list (string (codes ".md") ∷ []) ∷ [])
    ≡ made kind.Label (list (string (codes ".md") ∷ []) ∷ []) (record (plainly kind.Label) { allow_files = allowed.Ending (codes ".md" ∷ []) })
some_files = refl

no_bool : attribute kind.Label (with_one (codes "allow_files") none) [] ≡ Err fault.Wrong
no_bool = refl

-- ---- providers

abbrev new : Given → List Cell → Result (Value × Declarations) Kind
new g h = new_provider g (evaluation h) (record nothing_yet { providers = 2 })

-- the third of the module
abbrev third : List (List ℕ) → Result (Value × Declarations) Kind
third fields =
    Ok (
      value.Leaf (plain.Provider (record { id = Some (record { «module» = 3; number = 2 }); name = provider.Exported (record { path = codes "a/r.bzl"; name = export.Making 2 }); fields = fields })),
      record nothing_yet { providers = 3 },
    )

-- provider(fields = ["m", "None"]), and of a dict, with `doc` as the position
of_names : new (with_one (codes "fields") (at 0)) (list (string (codes "m") ∷ string (codes "None") ∷ []) ∷ []) ≡ third (codes "m" ∷ codes "None" ∷ [])
unfolding begins
of_names = refl

of_dict : new (record { items = string (codes "d") ∷ []; names = codes "fields" ∷ []; values = at 0 ∷ [] }) (cell.Dict ((index.Text (codes "m"), string (codes "what")) ∷ []) 0 ∷ [])
    ≡ third (codes "m" ∷ [])
unfolding begins
of_dict = refl

-- fields = ["m", "m"], ["if"], ["a-b"], {"m": 1}, {1: "m"}, "m"
twice : new (with_one (codes "fields") (at 0)) (list (string (codes "m") ∷ string (codes "m") ∷ []) ∷ []) ≡ Err fault.Wrong
unfolding begins
twice = refl

no_word : new (with_one (codes "fields") (at 0)) (list (string (codes "if") ∷ []) ∷ []) ≡ Err fault.Wrong
unfolding begins
no_word = refl

no_dash : new (with_one (codes "fields") (at 0)) (list (string (codes "a-b") ∷ []) ∷ []) ≡ Err fault.Wrong
unfolding begins
no_dash = refl

no_document : new (with_one (codes "fields") (at 0)) (cell.Dict ((index.Text (codes "m"), number (pos 1)) ∷ []) 0 ∷ []) ≡ Err fault.Wrong
no_document = refl

no_string : new (with_one (codes "fields") (at 0)) (cell.Dict ((index.Number (pos 1), string (codes "m")) ∷ []) 0 ∷ []) ≡ Err fault.Wrong
no_string = refl

no_sequence : new (with_one (codes "fields") (string (codes "m"))) [] ≡ Err fault.Wrong
no_sequence = refl

-- provider(), provider("d", doc = "e", fields = []), provider("d", "e")
no_fields : new (call [] []) [] ≡ Err fault.Arity
no_fields = refl

doc_twice : new (record { items = string (codes "d") ∷ []; names = codes "doc" ∷ codes "fields" ∷ []; values = string (codes "e") ∷ at 0 ∷ [] }) (list [] ∷ []) ≡ Err fault.Arity
doc_twice = refl

two_positions : new (record { items = string (codes "d") ∷ at 0 ∷ []; names = []; values = [] }) (list [] ∷ []) ≡ Err fault.Arity
two_positions = refl

-- ---- rules

abbrev function : FunctionRef
function = record { id = record { «module» = 1; number = 0 }; path = codes "b/w.bzl"; name = codes "_w" }

abbrev f : Value
f = value.Leaf (plain.Function function)

-- the module declared one attribute, and a module that it loads another
abbrev declared : Declarations
declared = record nothing_yet { attributes = plainly kind.String ∷ [] }

abbrev private_default : Attribute
private_default = record (plainly kind.Int) { default = Some (has.Key (index.Number (pos 1))) }

abbrev linked : List ℕ → ℕ → Option Attribute
linked path n = Some private_default

abbrev own : Value
own = value.Leaf (plain.Attribute (record { kind = kind.String; path = codes "a/r.bzl"; number = 0 }))

abbrev foreign : Value
foreign = value.Leaf (plain.Attribute (record { kind = kind.Int; path = codes "b/w.bzl"; number = 5 }))

abbrev rule : Given → List Cell → Result (Value × Declarations) Kind
rule g h = new_rule linked (evaluation h) declared g

abbrev first : List Cell → List NamedAttribute → Result (Value × Declarations) Kind
first h named =
    Ok (value.Leaf (plain.Rule (next_rule linked (evaluation h) declared)), record declared { rules = record { implementation = function; attributes = named } ∷ [] })

-- rule(f), rule(f, {"text": own, "_p": foreign}): a function and a declaration of other modules do
of_function : rule (record { items = f ∷ []; names = []; values = [] }) [] ≡ first [] []
of_function = refl

abbrev entries : List (List ℕ) → List Value → Cell
entries (x ∷ y ∷ []) (u ∷ v ∷ []) = cell.Dict ((index.Text x, u) ∷ (index.Text y, v) ∷ []) 0
entries (x ∷ _) (v ∷ _) = cell.Dict ((index.Text x, v) ∷ []) 0
entries _ _ = cell.Dict [] 0

abbrev with_attrs : Cell → Result (Value × Declarations) Kind
with_attrs c = rule (record { items = f ∷ at 0 ∷ []; names = []; values = [] }) (c ∷ [])

of_attributes : with_attrs (entries (codes "text" ∷ codes "_p" ∷ []) (own ∷ foreign ∷ []))
    ≡ first (entries (codes "text" ∷ codes "_p" ∷ []) (own ∷ foreign ∷ []) ∷ [])
    (record { name = codes "text"; attribute = plainly kind.String } ∷ record { name = codes "_p"; attribute = private_default } ∷ [])
unfolding begins
of_attributes = refl

-- rule(len), and attributes `name`, "a-b", one that is private without a default, one that is no declaration
built_in_is_none : rule (record { items = value.Leaf (plain.BuiltIn built_in.Len) ∷ []; names = []; values = [] }) [] ≡ Err fault.Wrong
built_in_is_none = refl

name_is_there : with_attrs (entries (codes "name" ∷ []) (own ∷ [])) ≡ Err fault.Wrong
unfolding begins
name_is_there = refl

no_name : with_attrs (entries (codes "a-b" ∷ []) (own ∷ [])) ≡ Err fault.Wrong
unfolding begins
no_name = refl

private_bare : with_attrs (entries (codes "_q" ∷ []) (own ∷ [])) ≡ Err fault.Wrong
unfolding begins
private_bare = refl

no_declaration : with_attrs (entries (codes "text" ∷ []) (f ∷ [])) ≡ Err fault.Wrong
unfolding begins
no_declaration = refl

-- rule(), rule(f, {}, "doc")
no_function : rule (call [] []) [] ≡ Err fault.Arity
no_function = refl

doc_by_position : rule (record { items = f ∷ at 0 ∷ none ∷ []; names = []; values = [] }) (entries [] [] ∷ []) ≡ Err fault.Arity
doc_by_position = refl

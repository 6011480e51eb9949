-- Worked calls of rules, by computation.
use Rattle.std.specs.Prelude.{◌≡◌, ℕ, pos, true, false, List, [], ◌∷◌, Option, None, Some, Ok, Err, refl, codes}
use Rattle.values.specs.declared.cells.Cell.{Cell}
use Rattle.values.specs.declared.cells.Cell.TheVariants as cell
use Rattle.keys.specs.declared.key.Key.{Key}
use Rattle.keys.specs.declared.key.Key.TheVariants as index
use Rattle.leaves.specs.declared.leaf.AttributeKind.{AttributeKind}
use Rattle.leaves.specs.declared.leaf.AttributeKind.TheVariants as kind
use Rattle.leaves.specs.declared.leaf.FunctionRef.{FunctionRef}
use Rattle.ticks.specs.declared.ticks.Kind.TheVariants as fault
use Rattle.values.specs.declared.value.Value.{Value}
use Rattle.values.specs.declared.value.Value.TheVariants as value
use Rattle.visits.specs.Freeze.{freeze_at}
use Rattle.operations.specs.Arguments.{Given}
use Rattle.operations.specs.Making.{none, truth, number, text}
use Rattle.operations.specs.States.{Doing}
use Rattle.operations.specs.declared.state.State.{State}
use Rattle.workspace.specs.Labels.{LabelParts}
use Rattle.workspace.specs.Paths.{are_segments}
use Rattle.targets.specs.Attributes.{are_attributes}
use Rattle.targets.specs.RuleCalls.{build_file, module_file, implementation, rule_call}
use Rattle.targets.specs.TextDicts.{entry_of}
use Rattle.targets.specs.declared.attributes.AllowFiles.TheVariants as allowed
use Rattle.targets.specs.declared.attributes.Attribute.{Attribute}
use Rattle.targets.specs.declared.attributes.AttributeValue.{AttributeValue}
use Rattle.targets.specs.declared.attributes.AttributeValue.TheVariants as has
use Rattle.targets.specs.declared.attributes.NamedAttribute.{NamedAttribute}
use Rattle.targets.specs.declared.attributes.Rule.{Rule}
use Rattle.targets.specs.declared.target.Target.{Target}
use Rattle.targets.specs.declared.text_dict.TextEntry.{TextEntry}

-- a BUILD file's evaluation with these cells, and so many ticks used of five
abbrev evaluation : List Cell → ℕ → State
evaluation h n =
    record { heap = h; ticks = record { limit = 5; used = n }; owner = codes "a/BUILD"; depsets = 0; file = 0; globals = []; loaded = []; defaults = [] }

abbrev label : List ℕ → LabelParts
label n = record { «package» = codes "a"; name = n }

abbrev other : LabelParts
other = record { «package» = codes "c"; name = codes "d" }

abbrev with_default : AttributeKind → Option AttributeValue → Attribute
with_default k d = record { kind = k; default = d; mandatory = false; values = []; providers = []; allow_files = allowed.Nothing }

abbrev plain : AttributeKind → Attribute
plain k = with_default k None

abbrev mandatory : Attribute → Attribute
mandatory a = record a { mandatory = true }

abbrev called : List ℕ → Attribute → NamedAttribute
called x a = record { name = x; attribute = a }

abbrev function : FunctionRef
function = record { id = record { «module» = 0; number = 0 }; path = codes "a/w.bzl"; name = codes "_w" }

abbrev rule : List NamedAttribute → Rule
rule named = record { implementation = function; attributes = named }

-- w = rule(_w, {"text": attr.string(), "deps": attr.label_list()})
abbrev w : Rule
w = rule (called (codes "text") (plain kind.String) ∷ called (codes "deps") (plain kind.LabelList) ∷ [])

abbrev w_target : List ℕ → List ℕ → List LabelParts → Target
w_target n t ls = record { label = label n; rule = w; values = has.Key (index.Text t) ∷ has.Labels ls ∷ [] }

abbrev call : List (List ℕ) → List Value → Given
call names values = record { items = []; names = names; values = values }

-- name = "x", and one argument more
abbrev x_and : List ℕ → Value → Given
x_and n v = call (codes "name" ∷ n ∷ []) (text (codes "x") ∷ v ∷ [])

abbrev x_alone : Given
x_alone = call (codes "name" ∷ []) (text (codes "x") ∷ [])

-- the list in cell 0, of texts
abbrev at_0 : Value
at_0 = value.Cell 0

abbrev list_of : List Value → List Cell
list_of vs = cell.List vs 0 ∷ []

abbrev in_a : List Target → Rule → Given → List Cell → Doing Target
in_a ts r g h = rule_call (build_file (codes "a") ts) r g (evaluation h 0)

-- w(name = "x", text = None): None is as if it weren't given, and isn't frozen
none_is_default : in_a [] w (x_and (codes "text") none) [] ≡ Ok (w_target (codes "x") [] [], evaluation [] 0)
unfolding are_segments freeze_at
none_is_default = refl

-- w(name = "x", text = "hi"): one value is frozen
given_text : in_a [] w (x_and (codes "text") (text (codes "hi"))) [] ≡ Ok (w_target (codes "x") (codes "hi") [], evaluation [] 1)
unfolding are_segments freeze_at
given_text = refl

-- w(name = "b/c")
deep_name : in_a [] w (call (codes "name" ∷ []) (text (codes "b/c") ∷ [])) [] ≡ Ok (w_target (codes "b/c") [] [], evaluation [] 0)
unfolding are_segments freeze_at
deep_name = refl

-- w(name = "x", deps = [":b", "//c:d"]): the list and its two strings are frozen
deps_are_read : in_a [] w (x_and (codes "deps") at_0) (list_of (text (codes ":b") ∷ text (codes "//c:d") ∷ []))
    ≡ Ok (w_target (codes "x") [] (label (codes "b") ∷ other ∷ []), evaluation (list_of (text (codes ":b") ∷ text (codes "//c:d") ∷ [])) 3)
unfolding are_segments freeze_at
deps_are_read = refl

-- deps = ["b", "//a:b"]: one label twice
twice_is_key : in_a [] w (x_and (codes "deps") at_0) (list_of (text (codes "b") ∷ text (codes "//a:b") ∷ [])) ≡ Err fault.Key
unfolding are_segments freeze_at
twice_is_key = refl

-- the package has declared x
declared_is_key : in_a (w_target (codes "x") [] [] ∷ []) w x_alone [] ≡ Err fault.Key
unfolding are_segments freeze_at
declared_is_key = refl

-- deps = ["b", "b", ":"]: `type` before `key`
type_before_key : in_a (w_target (codes "x") [] [] ∷ []) w (x_and (codes "deps") at_0) (list_of (text (codes "b") ∷ text (codes "b") ∷ text (codes ":") ∷ [])) ≡ Err fault.Wrong
unfolding are_segments freeze_at
type_before_key = refl

-- `key` before `steps`
key_before_steps : rule_call (build_file (codes "a") []) w (x_and (codes "deps") at_0) (evaluation (list_of (text (codes "b") ∷ text (codes "b") ∷ [])) 5) ≡ Err fault.Key
unfolding are_segments freeze_at
key_before_steps = refl

no_ticks_left : rule_call (build_file (codes "a") []) w (x_and (codes "text") (text (codes "hi"))) (evaluation [] 5) ≡ Err fault.Steps
unfolding are_segments freeze_at
no_ticks_left = refl

-- deps = ("b",), deps = "b", text = 1, text = True: other types
tuple_is_no_list : in_a [] w (x_and (codes "deps") at_0) (cell.Tuple (text (codes "b") ∷ []) ∷ []) ≡ Err fault.Wrong
unfolding are_segments
tuple_is_no_list = refl

text_is_no_list : in_a [] w (x_and (codes "deps") (text (codes "b"))) [] ≡ Err fault.Wrong
unfolding are_segments
text_is_no_list = refl

number_is_no_text : in_a [] w (x_and (codes "text") (number (pos 1))) [] ≡ Err fault.Wrong
unfolding are_segments
number_is_no_text = refl

-- name = ":x", name = "//a:x", name = 1
name_is_no_label_text : in_a [] w (call (codes "name" ∷ []) (text (codes ":x") ∷ [])) [] ≡ Err fault.Wrong
unfolding are_segments
name_is_no_label_text = refl

name_is_no_whole_label : in_a [] w (call (codes "name" ∷ []) (text (codes "//a:x") ∷ [])) [] ≡ Err fault.Wrong
unfolding are_segments
name_is_no_whole_label = refl

name_is_a_text : in_a [] w (call (codes "name" ∷ []) (number (pos 1) ∷ [])) [] ≡ Err fault.Wrong
unfolding are_segments
name_is_a_text = refl

-- w("x"), w(), w(name = None), w(name = "x", other = 1), w(name = 1, other = 1): `arity`, before `type`
position : in_a [] w (record { items = text (codes "x") ∷ []; names = codes "name" ∷ []; values = text (codes "x") ∷ [] }) [] ≡ Err fault.Arity
position = refl

no_name : in_a [] w (call [] []) [] ≡ Err fault.Arity
no_name = refl

no_name_but_none : in_a [] w (call (codes "name" ∷ []) (none ∷ [])) [] ≡ Err fault.Arity
no_name_but_none = refl

unknown_name : in_a [] w (x_and (codes "other") none) [] ≡ Err fault.Arity
unknown_name = refl

arity_before_type : in_a [] w (call (codes "name" ∷ codes "other" ∷ []) (number (pos 1) ∷ number (pos 1) ∷ [])) [] ≡ Err fault.Arity
arity_before_type = refl

-- a private attribute, whatever stands for it; its default is the target's value
abbrev private : Rule
private = rule (called (codes "_p") (with_default kind.Int (Some (has.Key (index.Number (pos 7))))) ∷ [])

private_is_set : in_a [] private (x_and (codes "_p") none) [] ≡ Err fault.Arity
private_is_set = refl

private_default : in_a [] private x_alone [] ≡ Ok (record { label = label (codes "x"); rule = private; values = has.Key (index.Number (pos 7)) ∷ [] }, evaluation [] 0)
unfolding are_segments freeze_at
private_default = refl

-- a rule may not have `name`, nor a private attribute without a default of its own; None is one of a label
private_needs_default : are_attributes (called (codes "_p") (plain kind.Int) ∷ []) ≡ false
private_needs_default = refl

private_may_be_none : are_attributes (called (codes "_p") (with_default kind.Label (Some (has.Label None))) ∷ []) ≡ true
private_may_be_none = refl

name_is_there : are_attributes (called (codes "name") (plain kind.String) ∷ []) ≡ false
name_is_there = refl

-- a mandatory attribute that isn't given, that is None, and that is private
abbrev wanting : List ℕ → Rule
wanting n = rule (called n (mandatory (with_default kind.Bool (Some (has.Key (index.Truth true))))) ∷ [])

mandatory_is_missed : in_a [] (wanting (codes "m")) x_alone [] ≡ Err fault.Arity
mandatory_is_missed = refl

mandatory_is_none : in_a [] (wanting (codes "m")) (x_and (codes "m") none) [] ≡ Err fault.Arity
mandatory_is_none = refl

mandatory_is_given : in_a [] (wanting (codes "m")) (x_and (codes "m") (truth false)) []
    ≡ Ok (record { label = label (codes "x"); rule = wanting (codes "m"); values = has.Key (index.Truth false) ∷ [] }, evaluation [] 1)
unfolding are_segments freeze_at
mandatory_is_given = refl

mandatory_is_private : in_a [] (wanting (codes "_m")) x_alone [] ≡ Err fault.Arity
mandatory_is_private = refl

-- n = rule(_w, {"size": attr.int(values = [1, 2]), "words": attr.string_list()})
abbrev n : Rule
n = rule (called (codes "size") (record (plain kind.Int) { values = index.Number (pos 1) ∷ index.Number (pos 2) ∷ [] }) ∷ called (codes "words") (plain kind.StringList) ∷ [])

plain_values : in_a [] n (call (codes "words" ∷ codes "name" ∷ codes "size" ∷ []) (at_0 ∷ text (codes "x") ∷ number (pos 2) ∷ [])) (list_of (text (codes "b") ∷ []))
    ≡ Ok (record { label = label (codes "x"); rule = n; values = has.Key (index.Number (pos 2)) ∷ has.Strings (codes "b" ∷ []) ∷ [] }, evaluation (list_of (text (codes "b") ∷ [])) 3)
unfolding are_segments freeze_at
plain_values = refl

not_allowed : in_a [] n (x_and (codes "size") (number (pos 3))) [] ≡ Err fault.Wrong
unfolding are_segments
not_allowed = refl

-- a default isn't asked whether it is allowed
default_is_not_asked : in_a [] n x_alone [] ≡ Ok (record { label = label (codes "x"); rule = n; values = has.Key (index.Number (pos 0)) ∷ has.Strings [] ∷ [] }, evaluation [] 0)
unfolding are_segments freeze_at
default_is_not_asked = refl

no_list_of_texts : in_a [] n (x_and (codes "words") at_0) (list_of (number (pos 1) ∷ [])) ≡ Err fault.Wrong
unfolding are_segments
no_list_of_texts = refl

-- e = rule(_w, {"env": attr.string_dict(default = {"A": "1"})})
abbrev e : Rule
e = rule (called (codes "env") (with_default kind.StringDict (Some (has.StringDict (entry_of (codes "A") (codes "1") ∷ [])))) ∷ [])

abbrev e_target : List TextEntry → Target
e_target es = record { label = label (codes "x"); rule = e; values = has.StringDict es ∷ [] }

-- the dict in cell 0, of entries
abbrev dict_of : List (Key × Value) → List Cell
dict_of es = cell.Dict es 0 ∷ []

default_dict : in_a [] e x_alone [] ≡ Ok (e_target (entry_of (codes "A") (codes "1") ∷ []), evaluation [] 0)
unfolding are_segments freeze_at
default_dict = refl

-- env = {"B": "2", "A": "\n"}: the order is kept, and the dict, its two keys and its two values are frozen
abbrev given_entries : List Cell
given_entries = dict_of ((index.Text (codes "B"), text (codes "2")) ∷ (index.Text (codes "A"), text (codes "\n")) ∷ [])

given_dict : in_a [] e (x_and (codes "env") at_0) given_entries
    ≡ Ok (e_target (entry_of (codes "B") (codes "2") ∷ entry_of (codes "A") (codes "\n") ∷ []), evaluation given_entries 5)
unfolding are_segments freeze_at
given_dict = refl

-- with one tick less left
no_tick_for_dict : rule_call (build_file (codes "a") []) e (x_and (codes "env") at_0) (evaluation given_entries 1) ≡ Err fault.Steps
unfolding are_segments freeze_at
no_tick_for_dict = refl

-- env = {}: that is no default
empty_dict : in_a [] e (x_and (codes "env") at_0) (dict_of []) ≡ Ok (e_target [], evaluation (dict_of []) 1)
unfolding are_segments freeze_at
empty_dict = refl

-- env = {1: "a"}, env = {"a": 1}, env = [], env = (): other types
key_is_no_text : in_a [] e (x_and (codes "env") at_0) (dict_of ((index.Number (pos 1), text (codes "a")) ∷ [])) ≡ Err fault.Wrong
unfolding are_segments
key_is_no_text = refl

value_is_no_text : in_a [] e (x_and (codes "env") at_0) (dict_of ((index.Text (codes "a"), number (pos 1)) ∷ [])) ≡ Err fault.Wrong
unfolding are_segments
value_is_no_text = refl

list_is_no_dict : in_a [] e (x_and (codes "env") at_0) (list_of []) ≡ Err fault.Wrong
unfolding are_segments
list_is_no_dict = refl

tuple_is_no_dict : in_a [] e (x_and (codes "env") at_0) (cell.Tuple [] ∷ []) ≡ Err fault.Wrong
unfolding are_segments
tuple_is_no_dict = refl

-- d = rule(_w, {"deps": attr.label_list(default = ["//a:b", "//a:b"])}): a default may have a label twice, also where None is given
abbrev d : Rule
d = rule (called (codes "deps") (with_default kind.LabelList (Some (has.Labels (label (codes "b") ∷ label (codes "b") ∷ [])))) ∷ [])

abbrev d_target : Target
d_target = record { label = label (codes "x"); rule = d; values = has.Labels (label (codes "b") ∷ label (codes "b") ∷ []) ∷ [] }

default_may_repeat : in_a [] d x_alone [] ≡ Ok (d_target, evaluation [] 0)
unfolding are_segments freeze_at
default_may_repeat = refl

none_may_repeat : in_a [] d (x_and (codes "deps") none) [] ≡ Ok (d_target, evaluation [] 0)
unfolding are_segments freeze_at
none_may_repeat = refl

-- `place`, before `arity`
in_a_module : rule_call module_file w (call [] []) (evaluation [] 0) ≡ Err fault.Place
in_a_module = refl

in_an_implementation : rule_call implementation w x_alone (evaluation [] 0) ≡ Err fault.Place
in_an_implementation = refl

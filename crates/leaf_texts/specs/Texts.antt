-- The text of what has no parts, as a report prints it, and what stands between the parts of a
-- value. Strings, numbers, bools, None and what stands between parts are as in Starlark's
-- specification ("repr"); all other texts are this project's own.
use Rattle.std.specs.Prelude.{ℕ, zero, suc, ◌+◌, ◌/◌, ◌%◌, ◌==◌, ◌&&◌, not, Bool, true, false, List}
use Rattle.std.specs.Prelude.{[], ◌∷◌, ◌++◌, map, if◌then◌else◌, nat_lt, codes}
use Rattle.std.specs.List.{flat_map}
use Rattle.std.specs.Fmt.{decimal, signed_decimal}
use Rattle.depsets.specs.Rose.{Rose, label}
use Rattle.depsets.specs.Own.{Own}
use Rattle.depsets.specs.declared.depset.Order.{Order}
use Rattle.depsets.specs.declared.depset.Order.TheVariants as order
use Rattle.depsets.specs.declared.element.Element.{Element}
use Rattle.depsets.specs.declared.element.Element.TheVariants as element
use Rattle.depsets.specs.declared.element.FileRef.{FileRef}
use Rattle.leaves.specs.Leaves.{built_in_text}
use Rattle.leaves.specs.declared.leaf.Leaf.{Leaf}
use Rattle.leaves.specs.declared.leaf.Leaf.TheVariants as plain
use Rattle.keys.specs.declared.key.Key.{Key}
use Rattle.keys.specs.declared.key.Key.TheVariants as key
use Rattle.leaves.specs.declared.leaf.Exported.{Exported}
use Rattle.leaves.specs.declared.leaf.ExportName.{ExportName}
use Rattle.leaves.specs.declared.leaf.ExportName.TheVariants as export
use Rattle.leaves.specs.declared.leaf.ProviderRef.{ProviderRef}
use Rattle.leaves.specs.declared.leaf.ProviderRef.TheVariants as provider
use Rattle.leaves.specs.declared.leaf.AttributeKind.{AttributeKind}
use Rattle.leaves.specs.declared.leaf.AttributeKind.TheVariants as attribute
use Rattle.leaves.specs.declared.leaf.Object.{Object}
use Rattle.leaves.specs.declared.leaf.Object.TheVariants as object

-- the hexadecimal digit of a number below 16, in small letters
abbrev pub hex_digit : ℕ → ℕ
hex_digit d = if nat_lt d 10 then 48 + d else 87 + d

-- A byte that needs no escape. Strings of the language are ASCII; a byte past it is written by its
-- number.
abbrev pub unescaped : ℕ → List ℕ
unescaped b =
    if nat_lt b 128 then b ∷ [] else codes "\\x" ++ hex_digit (b / 16) ∷ hex_digit (b % 16) ∷ []

-- a byte of a string as it is printed: newline, tab, backslash and quote are escaped
abbrev pub escape : ℕ → List ℕ
escape b =
    if b == 10 then codes "\\n"
    else (if b == 9 then codes "\\t"
    else (if b == 92 then codes "\\\\"
    else (if b == 34 then codes "\\\"" else unescaped b)))

-- whether a byte is written as it stands
abbrev pub is_bare : ℕ → Bool
is_bare b = not (b == 10) && not (b == 9) && not (b == 92) && not (b == 34) && nat_lt b 128

-- a string between quotes
abbrev pub quoted : List ℕ → List ℕ
quoted s = 34 ∷ flat_map escape s ++ 34 ∷ []

-- what stands before the part at a place: a comma and a space, but before the first nothing
abbrev pub separator : ℕ → List ℕ
separator zero = []
separator (suc n) = codes ", "

-- the texts of the parts from a place on
abbrev pub joined_from : ℕ → List (List ℕ) → List ℕ
joined_from n [] = []
joined_from n (t ∷ ts) = separator n ++ t ++ joined_from (n + 1) ts

-- the texts of the parts, with commas between them
abbrev pub joined : List (List ℕ) → List ℕ
joined ts = joined_from 0 ts

-- a bool
abbrev pub truth_text : Bool → List ℕ
truth_text true = codes "True"
truth_text false = codes "False"

-- a File, by its path
abbrev pub file_text : FileRef → List ℕ
file_text f = codes "<file " ++ f.path ++ codes ">"

-- what a provider or a rule is called in its module: the name of a global, and until the module's
-- end its number there
abbrev pub export_text : ExportName → List ℕ
export_text (export.Global s) = s
export_text (export.Making n) = decimal n

-- the module's path and the name, as `a/f.bzl%P`
abbrev pub exported_text : Exported → List ℕ
exported_text e = e.path ++ codes "%" ++ export_text e.name

-- a provider's name: `DefaultInfo`, or the module's path and what it is called there
abbrev pub provider_text : ProviderRef → List ℕ
provider_text provider.DefaultInfo = codes "DefaultInfo"
provider_text (provider.Exported e) = exported_text e

-- an order, as the argument `order` of `depset` names it
abbrev pub order_text : Order → List ℕ
order_text order.Default = codes "default"
order_text order.Postorder = codes "postorder"
order_text order.Preorder = codes "preorder"

-- a kind of attribute, as its function in `attr` is called
abbrev pub attribute_text : AttributeKind → List ℕ
attribute_text attribute.String = codes "string"
attribute_text attribute.Int = codes "int"
attribute_text attribute.Bool = codes "bool"
attribute_text attribute.StringList = codes "string_list"
attribute_text attribute.StringDict = codes "string_dict"
attribute_text attribute.Label = codes "label"
attribute_text attribute.LabelList = codes "label_list"

-- targets and these objects are in no frozen value that an evaluation makes
abbrev pub object_text : Object → List ℕ
object_text object.Attr = codes "<attr>"
object_text object.Context = codes "<ctx>"
object_text object.ContextAttr = codes "<ctx.attr>"
object_text object.ContextFiles = codes "<ctx.files>"
object_text object.ContextActions = codes "<ctx.actions>"

-- an element of a depset
abbrev pub element_text : Element → List ℕ
element_text (element.Text s) = quoted s
element_text (element.Number n) = signed_decimal n
element_text (element.Truth b) = truth_text b
element_text (element.Label s) = s
element_text (element.File f) = file_text f

-- a depset with these items in its listing
abbrev pub depset_text : Order → List Element → List ℕ
depset_text o es =
    codes "depset(" ++ order_text o ++ codes ", [" ++ joined (map element_text es) ++ codes "])"

-- a leaf, with the listing of its depset
abbrev pub leaf_text : (Rose Own → List Element) → Leaf → List ℕ
leaf_text listing plain.None = codes "None"
leaf_text listing (plain.Label s) = s
leaf_text listing (plain.File f) = file_text f
leaf_text listing (plain.Depset d) = depset_text (label d).order (listing d)
leaf_text listing (plain.Function f) =
    codes "<function " ++ f.path ++ codes "%" ++ f.name ++ codes ">"
leaf_text listing (plain.BuiltIn b) = codes "<built-in " ++ built_in_text b ++ codes ">"
leaf_text listing (plain.Provider p) = codes "<provider " ++ provider_text p.name ++ codes ">"
leaf_text listing (plain.Rule r) = codes "<rule " ++ exported_text r.name ++ codes ">"
leaf_text listing (plain.Attribute a) = codes "<attr " ++ attribute_text a.kind ++ codes ">"
leaf_text listing (plain.Target n) = codes "<target>"
leaf_text listing (plain.Object o) = object_text o

-- a key of a dict, as a value of its type
abbrev pub key_text : Key → List ℕ
key_text (key.Text s) = quoted s
key_text (key.Number n) = signed_decimal n
key_text (key.Truth b) = truth_text b

-- what stands before the value of a dict's entry
abbrev pub entry_head : Key → List ℕ
entry_head k = key_text k ++ codes ": "

-- what stands before the value of an instance's field
abbrev pub field_head : List ℕ → List ℕ
field_head name = name ++ codes "="

-- a tuple of one item ends with a comma
abbrev pub tuple_end : ℕ → List ℕ
tuple_end n = if n == 1 then codes ",)" else codes ")"

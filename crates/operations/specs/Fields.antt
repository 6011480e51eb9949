-- Fields, and methods where they are called. (Starlark's specification, "Dot expressions"; Bazel's
-- documentation of `File`, `Label` and providers. Fields of targets and of `ctx` are said where
-- there are targets.)
use Rattle.std.specs.Prelude.{ℕ, true, List, [], ◌∷◌, ◌++◌, drop, Option, Some, None}
use Rattle.std.specs.Prelude.{Result, Ok, Err, bytes_eq, codes, nat_eq, if◌then◌else◌}
use Rattle.depsets.specs.declared.element.FileRef.{FileRef}
use Rattle.values.specs.Shape.{Shape, key, atom, items, entries, fields, shape}
use Rattle.leaves.specs.declared.leaf.Leaf.{Leaf}
use Rattle.leaves.specs.declared.leaf.Leaf.TheVariants as plain
use Rattle.keys.specs.declared.key.Key.{Key}
use Rattle.keys.specs.declared.key.Key.TheVariants as index
use Rattle.values.specs.declared.value.Value.{Value}
use Rattle.ticks.specs.declared.ticks.Kind.{Kind}
use Rattle.ticks.specs.declared.ticks.Kind.TheVariants as kind
use Rattle.operations.specs.declared.method.Method.{Method}
use Rattle.operations.specs.declared.method.Method.TheVariants as method
use Rattle.operations.specs.States.{Op, keeping}
use Rattle.operations.specs.Items.{or_fault, at_place}
use Rattle.first_places.specs.Places.{place_named}
use Rattle.operations.specs.Making.{text}
use Rattle.operations.specs.Names.{in_slot}

-- the value of a field, by the places of the names in the provider; one that wasn't given is none
abbrev pub field_in : List ℕ → List (List ℕ) → List (Option Value) → Option Value
field_in x names os = in_slot (at_place os (place_named x names))

-- what stands before the first colon: of `PACKAGE:NAME` the package
abbrev pub before_colon : List ℕ → List ℕ
before_colon [] = []
before_colon (b ∷ bs) = if nat_eq b 58 then [] else b ∷ before_colon bs

-- what stands behind the first colon: of `//PACKAGE:NAME` the name
abbrev pub after_colon : List ℕ → List ℕ
after_colon [] = []
after_colon (b ∷ bs) = if nat_eq b 58 then bs else after_colon bs

-- the fields of a `Label`: `package` and `name`
abbrev pub label_field : List ℕ → List ℕ → Option Value
label_field t x =
    if bytes_eq x (codes "package") then Some (text (before_colon (drop 2 t))) else
    if bytes_eq x (codes "name") then Some (text (after_colon t)) else
    None

-- what stands behind the last slash of a path
abbrev pub last_part : List ℕ → List ℕ → List ℕ
last_part part [] = part
last_part part (b ∷ bs) = if nat_eq b 47 then last_part [] bs else last_part (part ++ b ∷ []) bs

-- the fields of a `File`: `path` and `basename`
abbrev pub file_field : FileRef → List ℕ → Option Value
file_field f x =
    if bytes_eq x (codes "path") then Some (text f.path) else
    if bytes_eq x (codes "basename") then Some (text (last_part [] f.path)) else
    None

-- the field of a value without parts: of a label or of a `File`; all else has none
abbrev pub leaf_field : Leaf → List ℕ → Option Value
leaf_field (plain.Label t) x = label_field t x
leaf_field (plain.File f) x = file_field f x
leaf_field _ x = None

-- the field of any value by what it shows: of an instance too
abbrev pub shape_field : Shape → List ℕ → Option Value
shape_field (fields p xs) x = field_in x p.fields xs
shape_field (atom l) x = leaf_field l x
shape_field _ x = None

-- `v.x`; a method that is read and not called is `name`, as all that isn't there
abbrev pub field : Value → List ℕ → Op Value
field v x s = keeping (or_fault kind.Name (shape_field (shape s.heap v) x)) s

-- the methods of lists, by name
abbrev pub list_method : List ℕ → Option Method
list_method x =
    if bytes_eq x (codes "append") then Some method.Append else
    if bytes_eq x (codes "extend") then Some method.Extend else
    None

-- the methods of dicts, by name
abbrev pub dict_method : List ℕ → Option Method
dict_method x =
    if bytes_eq x (codes "get") then Some method.Get else
    if bytes_eq x (codes "keys") then Some method.Keys else
    if bytes_eq x (codes "values") then Some method.Values else
    if bytes_eq x (codes "items") then Some method.Items else
    None

-- the methods of strings, by name
abbrev pub string_method : List ℕ → Option Method
string_method x =
    if bytes_eq x (codes "join") then Some method.Join else
    if bytes_eq x (codes "split") then Some method.Split else
    if bytes_eq x (codes "startswith") then Some method.StartsWith else
    if bytes_eq x (codes "endswith") then Some method.EndsWith else
    None

-- the one method of depsets
abbrev pub depset_method : List ℕ → Option Method
depset_method x = if bytes_eq x (codes "to_list") then Some method.ToList else None

-- the method of a key: only a string has any
abbrev pub key_method : Key → List ℕ → Option Method
key_method (index.Text t) x = string_method x
key_method _ x = None

-- the method of a value without parts: only a depset has one
abbrev pub leaf_method : Leaf → List ℕ → Option Method
leaf_method (plain.Depset d) x = depset_method x
leaf_method _ x = None

-- the method of a value by what it shows; a tuple has none
abbrev pub shape_method : Shape → List ℕ → Option Method
shape_method (items true xs) x = list_method x
shape_method (entries es) x = dict_method x
shape_method (key k) x = key_method k x
shape_method (atom l) x = leaf_method l x
shape_method _ x = None

-- what `v.x` is where it is called: a value, or a method of `v`
pub data Found : Type 0 where
  plainly : Value → Found
  with_method : Method → Found

-- the value of a field, or else a method
abbrev pub found_in : Option Value → Option Method → Result Found Kind
found_in (Some v) m = Ok (plainly v)
found_in None (Some m) = Ok (with_method m)
found_in None None = Err kind.Name

-- `v.x(..)` finds what is called before the arguments are evaluated: `name` where there is neither
-- field nor method
abbrev pub find : Value → List ℕ → Op Found
find v x s = keeping (found_in (shape_field (shape s.heap v) x) (shape_method (shape s.heap v) x)) s

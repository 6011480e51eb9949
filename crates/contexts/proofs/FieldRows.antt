-- Worked fields of targets, of `ctx` and of its parts, and worked items of targets, by computation.
use Rattle.std.specs.Prelude.{◌≡◌, ℕ, true, false, List, [], ◌∷◌, Result, Ok, Err, refl, codes}
use Rattle.depsets.specs.Listed.{walked}
use Rattle.depsets.specs.declared.element.Element.TheVariants as element
use Rattle.values.specs.Tree.{key, leaf, dict, pairs}
use Rattle.values.specs.View.{FrozenTree}
use Rattle.values.specs.Shape.{value_of}
use Rattle.keys.specs.declared.key.Key.TheVariants as index
use Rattle.leaves.specs.declared.leaf.Leaf.{Leaf}
use Rattle.leaves.specs.declared.leaf.Leaf.TheVariants as plain
use Rattle.leaves.specs.declared.leaf.Object.{Object}
use Rattle.leaves.specs.declared.leaf.Object.TheVariants as object
use Rattle.leaves.specs.declared.leaf.Provider.{Provider}
use Rattle.ticks.specs.declared.ticks.Kind.{Kind}
use Rattle.ticks.specs.declared.ticks.Kind.TheVariants as fault
use Rattle.values.specs.declared.value.Value.{Value}
use Rattle.values.specs.declared.value.Value.TheVariants as value
use Rattle.operations.specs.Instances.{default_info}
use Rattle.operations.specs.Making.{none, text}
use Rattle.targets.specs.Sources.{first_depset, info_with}
use Rattle.contexts.specs.Offered.{item, offers}
use Rattle.contexts.specs.Fields.{field, object_value, frozen_list}
use Rattle.contexts.proofs.Small.{target, dependencies, x, P, Q, instance_of_P, d_files, s_file, file_of}

abbrev field_of : Leaf → List ℕ → Result Value Kind
field_of l n = field walked target dependencies x l n

abbrev of_object : Object → List ℕ → Result Value Kind
of_object o n = field_of (plain.Object o) n

-- ---- targets: //a:d at place 0, the source file //a:s.txt at 1

target_label : field_of (plain.Target 0) (codes "label") ≡ Ok (value.Leaf (plain.Label (codes "//a:d")))
target_label = refl

target_files : field_of (plain.Target 0) (codes "files") ≡ Ok (value.Leaf (plain.Depset d_files))
target_files = refl

source_label : field_of (plain.Target 1) (codes "label") ≡ Ok (value.Leaf (plain.Label (codes "//a:s.txt")))
source_label = refl

-- no call made it: its serial is 0
source_files : field_of (plain.Target 1) (codes "files") ≡ Ok (value.Leaf (plain.Depset (first_depset (codes "//a:s.txt") (element.File s_file ∷ []))))
source_files = refl

no_target_field : field_of (plain.Target 0) (codes "name") ≡ Err fault.Name
no_target_field = refl

no_such_target : field_of (plain.Target 2) (codes "label") ≡ Err fault.Name
no_such_target = refl

-- ---- ctx

context_label : of_object object.Context (codes "label") ≡ Ok (value.Leaf (plain.Label (codes "//a:x")))
context_label = refl

context_attr : of_object object.Context (codes "attr") ≡ Ok (object_value object.ContextAttr)
context_attr = refl

context_files : of_object object.Context (codes "files") ≡ Ok (object_value object.ContextFiles)
context_files = refl

context_actions : of_object object.Context (codes "actions") ≡ Ok (object_value object.ContextActions)
context_actions = refl

context_name : of_object object.Context (codes "name") ≡ Err fault.Name
context_name = refl

-- ---- ctx.attr

attr_name : of_object object.ContextAttr (codes "name") ≡ Ok (text (codes "x"))
attr_name = refl

attr_text : of_object object.ContextAttr (codes "text") ≡ Ok (text (codes "hi"))
attr_text = refl

attr_words : of_object object.ContextAttr (codes "words") ≡ Ok (frozen_list (key (index.Text (codes "b")) ∷ key (index.Text (codes "c")) ∷ []))
attr_words = refl

-- the entries in their order
attr_env : of_object object.ContextAttr (codes "env")
    ≡ Ok (value.Frozen (dict (pairs (index.Text (codes "B") ∷ index.Text (codes "A") ∷ []) (key (index.Text (codes "2")) ∷ key (index.Text (codes "\n")) ∷ []))))
attr_env = refl

attr_one : of_object object.ContextAttr (codes "one") ≡ Ok (value.Leaf (plain.Target 1))
attr_one = refl

attr_none : of_object object.ContextAttr (codes "none") ≡ Ok none
attr_none = refl

-- one dependency, as often as its label stands there
attr_deps : of_object object.ContextAttr (codes "deps") ≡ Ok (frozen_list (leaf (plain.Target 1) ∷ leaf (plain.Target 0) ∷ leaf (plain.Target 1) ∷ []))
attr_deps = refl

attr_other : of_object object.ContextAttr (codes "other") ≡ Err fault.Name
attr_other = refl

-- ---- ctx.files

abbrev file : List ℕ → List ℕ → FrozenTree
file path owner = leaf (plain.File (file_of path owner))

files_one : of_object object.ContextFiles (codes "one") ≡ Ok (frozen_list (file (codes "a/s.txt") (codes "//a:s.txt") ∷ []))
files_one = refl

-- it is no attribute of labels
files_env : of_object object.ContextFiles (codes "env") ≡ Err fault.Name
files_env = refl

files_none : of_object object.ContextFiles (codes "none") ≡ Ok (frozen_list [])
files_none = refl

-- the listings one after the other, repeats kept
files_deps : of_object object.ContextFiles (codes "deps")
    ≡ Ok (frozen_list (file (codes "a/s.txt") (codes "//a:s.txt") ∷ file (codes "a/d1") (codes "//a:d") ∷ file (codes "a/d2") (codes "//a:d") ∷ file (codes "a/s.txt") (codes "//a:s.txt") ∷ []))
files_deps = refl

-- `text` is an attribute of another kind, and `name` is none
files_text : of_object object.ContextFiles (codes "text") ≡ Err fault.Name
files_text = refl

files_name : of_object object.ContextFiles (codes "name") ≡ Err fault.Name
files_name = refl

-- ---- methods that aren't called

actions_write : of_object object.ContextActions (codes "write") ≡ Err fault.Name
actions_write = refl

attr_string : of_object object.Attr (codes "string") ≡ Err fault.Name
attr_string = refl

-- ---- t[P] and P in t

abbrev provider : Provider → Value
provider p = value.Leaf (plain.Provider p)

item_P : item dependencies [] 0 (provider P) ≡ Ok (value_of instance_of_P)
item_P = refl

item_Q : item dependencies [] 0 (provider Q) ≡ Err fault.Key
item_Q = refl

item_number : item dependencies [] 0 (text (codes "P")) ≡ Err fault.Wrong
item_number = refl

-- a source file offers `DefaultInfo` alone
item_info : item dependencies [] 1 (provider default_info) ≡ Ok (value_of (info_with (first_depset (codes "//a:s.txt") (element.File s_file ∷ []))))
item_info = refl

item_source : item dependencies [] 1 (provider P) ≡ Err fault.Key
item_source = refl

offers_P : offers dependencies [] 0 (provider P) ≡ Ok true
offers_P = refl

offers_Q : offers dependencies [] 0 (provider Q) ≡ Ok false
offers_Q = refl

offers_info : offers dependencies [] 1 (provider default_info) ≡ Ok true
offers_info = refl

offers_none : offers dependencies [] 1 none ≡ Err fault.Wrong
offers_none = refl

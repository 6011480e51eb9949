-- Fields of targets, of `ctx` and of its parts (Bazel documentation, "ctx"; docs/PROFILE.md,
-- "Fields").
use Rattle.std.specs.Prelude.{ℕ, ◌+◌, List, [], ◌∷◌, length, map, Option, Some, None, option_map}
use Rattle.std.specs.Prelude.{Result, Ok, Err, nat_lt, slice_get, codes, bytes_eq, if◌then◌else◌}
use Rattle.std.specs.List.{flat_map}
use Rattle.depsets.specs.Own.{Own}
use Rattle.depsets.specs.Rose.{Rose}
use Rattle.depsets.specs.declared.element.Element.{Element}
use Rattle.depsets.specs.declared.element.Element.TheVariants as element
use Rattle.values.specs.Shape.{value_of}
use Rattle.values.specs.Tree.{key, leaf, list, trees}
use Rattle.values.specs.View.{FrozenTree}
use Rattle.values.specs.declared.cells.TheConstants.{LARGEST}
use Rattle.keys.specs.declared.key.Key.TheVariants as index
use Rattle.leaves.specs.declared.leaf.Leaf.{Leaf}
use Rattle.leaves.specs.declared.leaf.Leaf.TheVariants as plain
use Rattle.leaves.specs.declared.leaf.Object.{Object}
use Rattle.leaves.specs.declared.leaf.Object.TheVariants as object
use Rattle.ticks.specs.declared.ticks.Kind.{Kind}
use Rattle.ticks.specs.declared.ticks.Kind.TheVariants as fault
use Rattle.values.specs.declared.value.Value.{Value}
use Rattle.values.specs.declared.value.Value.TheVariants as value
use Rattle.operations.specs.Items.{or_fault}
use Rattle.operations.specs.Making.{none, text}
use Rattle.workspace.specs.Labels.{LabelParts, label_text, same_label}
use Rattle.targets.specs.Checks.{Dependency}
use Rattle.targets.specs.TextDicts.{dict_of_texts}
use Rattle.targets.specs.TextLists.{list_of_texts}
use Rattle.targets.specs.declared.attributes.AttributeValue.{AttributeValue}
use Rattle.targets.specs.declared.attributes.AttributeValue.TheVariants as has
use Rattle.targets.specs.declared.attributes.NamedAttribute.{NamedAttribute}
use Rattle.targets.specs.declared.target.Target.{Target}
use Rattle.contexts.specs.Offered.{files_of}

-- `ctx.attr`, `ctx.files` or `ctx.actions`, as a value
abbrev pub object_value : Object → Value
object_value o = value.Leaf (plain.Object o)

-- a label as a value, by its text
abbrev pub label_value : LabelParts → Value
label_value l = value.Leaf (plain.Label (label_text l))

-- a depset as a value
abbrev pub depset_value : Rose Own → Value
depset_value d = value.Leaf (plain.Depset d)

-- the frozen list of these items
abbrev pub frozen_list : List FrozenTree → Value
frozen_list ts = value.Frozen (list (trees ts))

-- ---- `label` and `files` of a target

-- a field of a dependency's target, if it has one of this name
abbrev pub dependency_field : Dependency → List ℕ → Option Value
dependency_field d x =
    if bytes_eq x (codes "label") then Some (label_value d.0) else
    if bytes_eq x (codes "files") then option_map depset_value (files_of d) else
    None

-- the same, of what may be no dependency: then there is no field
abbrev pub target_field : Option Dependency → List ℕ → Option Value
target_field (Some d) x = dependency_field d x
target_field None x = None

-- ---- `ctx`

-- a field of `ctx`, for the target of a label, if it has one of this name
abbrev pub context_field : LabelParts → List ℕ → Option Value
context_field l x =
    if bytes_eq x (codes "label") then Some (label_value l) else
    if bytes_eq x (codes "attr") then Some (object_value object.ContextAttr) else
    if bytes_eq x (codes "files") then Some (object_value object.ContextFiles) else
    if bytes_eq x (codes "actions") then Some (object_value object.ContextActions) else
    None

-- ---- what a target has for its attributes, by their names

-- the value that stands at the place of the attribute of this name, if there is such an attribute
abbrev pub value_named : List ℕ → List NamedAttribute → List AttributeValue → Option AttributeValue
value_named x [] vs = None
value_named x (a ∷ rest) [] = None
value_named x (a ∷ rest) (v ∷ vs) = if bytes_eq x a.name then Some v else value_named x rest vs

-- what a target has for the attribute of this name, if its rule has one
abbrev pub value_for : Target → List ℕ → Option AttributeValue
value_for t x = value_named x t.rule.attributes t.values

-- the place of a label among the dependencies, by which its target is told
abbrev pub place_of : List Dependency → LabelParts → ℕ
place_of [] l = 0
place_of (d ∷ ds) l = if same_label l d.0 then 0 else place_of ds l + 1

-- an element of a depset, as a frozen value
abbrev pub element_tree : Element → FrozenTree
element_tree (element.Text t) = key (index.Text t)
element_tree (element.Number n) = key (index.Number n)
element_tree (element.Truth b) = key (index.Truth b)
element_tree (element.Label t) = leaf (plain.Label t)
element_tree (element.File f) = leaf (plain.File f)

-- the frozen list of these, or `large` where they are more than a list may have
abbrev pub unless_large : List Element → Result Value Kind
unless_large es =
    if nat_lt LARGEST (length es) then Err fault.Large
    else Ok (frozen_list (map element_tree es))

-- the labels of an attribute of labels
abbrev pub attribute_labels : AttributeValue → Option (List LabelParts)
attribute_labels (has.Key k) = None
attribute_labels (has.Strings ts) = None
attribute_labels (has.StringDict es) = None
attribute_labels (has.Label None) = Some []
attribute_labels (has.Label (Some l)) = Some (l ∷ [])
attribute_labels (has.Labels ls) = Some ls

-- the dependencies of a target with their outcomes
module _ (ds : List Dependency) where
  -- the target of a label, as a frozen value
  abbrev pub target_tree : LabelParts → FrozenTree
  target_tree l = leaf (plain.Target (place_of ds l))

  -- what `ctx.attr` gives for an attribute: the target of each label, and None where there is no
  -- label
  abbrev pub attribute_value : AttributeValue → Value
  attribute_value (has.Key k) = value.Key k
  attribute_value (has.Strings ts) = value.Frozen (list_of_texts ts)
  attribute_value (has.StringDict es) = value.Frozen (dict_of_texts es)
  attribute_value (has.Label None) = none
  attribute_value (has.Label (Some l)) = value_of (target_tree l)
  attribute_value (has.Labels ls) = frozen_list (map target_tree ls)

-- the labels that a target has for an attribute, if it has that one and it is one of labels
abbrev pub labels_for : Option AttributeValue → Option (List LabelParts)
labels_for (Some v) = attribute_labels v
labels_for None = None

-- ---- `ctx.attr`

-- `name` is the target's name, and any other field is what the target has for that attribute
abbrev pub attr_field : Target → List Dependency → LabelParts → List ℕ → Option Value
attr_field t ds l x =
    if bytes_eq x (codes "name") then Some (text l.name)
    else option_map (attribute_value ds) (value_for t x)

-- with the listing of depsets by which `ctx.files` is made: the code has `walked`, as for `to_list`
module _ (listing : Rose Own → List Element) where
  -- ---- `ctx.files`, of attributes of labels alone

  -- the listing of a depset, which is empty where there is none
  abbrev pub listed_or_empty : Option (Rose Own) → List Element
  listed_or_empty (Some d) = listing d
  listed_or_empty None = []

  -- the listing of a dependency's files, which is empty where it has none
  abbrev pub listed_files : Option Dependency → List Element
  listed_files (Some d) = listed_or_empty (files_of d)
  listed_files None = []

  -- the dependencies of a target with their outcomes
  module _ (ds : List Dependency) where
    -- the listings of the targets of labels, one after the other
    abbrev pub files_listed : List LabelParts → List Element
    files_listed ls = flat_map (λ l. listed_files (slice_get ds (place_of ds l))) ls

    -- what `ctx.files` gives for these labels; `name` where the attribute is none of labels
    abbrev pub files_or_name : Option (List LabelParts) → Result Value Kind
    files_or_name (Some ls) = unless_large (files_listed ls)
    files_or_name None = Err fault.Name

  -- a target, and its dependencies with their outcomes
  module _ (t : Target) (ds : List Dependency) where
    -- the files of all targets that the attribute names, in one frozen list
    abbrev pub files_field : List ℕ → Result Value Kind
    files_field x = files_or_name ds (labels_for (value_for t x))

    -- ---- all of them; what has no such field is `name`, and so are methods that aren't called

    -- a field of `ctx`, `ctx.attr` or `ctx.files`, for the target of a label
    abbrev pub object_field : LabelParts → Object → List ℕ → Result Value Kind
    object_field l object.Context x = or_fault fault.Name (context_field l x)
    object_field l object.ContextAttr x = or_fault fault.Name (attr_field t ds l x)
    object_field l object.ContextFiles x = files_field x
    object_field l _ x = Err fault.Name

    -- a field of a target or of such an object; no other value has one here
    abbrev pub field : LabelParts → Leaf → List ℕ → Result Value Kind
    field l (plain.Target n) x = or_fault fault.Name (target_field (slice_get ds n) x)
    field l (plain.Object o) x = object_field l o x
    field l _ x = Err fault.Name

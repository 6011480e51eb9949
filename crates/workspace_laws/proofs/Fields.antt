-- The depsets in the fields of targets, of `ctx` and of its parts are those of the outcomes of the dependencies.
use Rattle.std.proofs.Common.{ℕ, List, [], ◌∷◌, Option, Some, None, Err, Ok, map}
use Rattle.std.specs.Prelude.{option_map, slice_get, codes, bytes_eq, nat_lt, length}
use Rattle.depsets.specs.Flat.{nodes}
use Rattle.depsets.specs.Listed.{walked}
use Rattle.depsets.specs.declared.element.Element.{Element}
use Rattle.depsets.specs.declared.element.Element.TheVariants as element
use Rattle.values.specs.Tree.{trees, pairs}
use Rattle.values.specs.View.{FrozenTree}
use Rattle.keys.specs.declared.key.Key.{Key}
use Rattle.values.specs.declared.cells.TheConstants.{LARGEST}
use Rattle.leaves.specs.declared.leaf.Leaf.{Leaf}
use Rattle.leaves.specs.declared.leaf.Leaf.TheVariants as plain
use Rattle.leaves.specs.declared.leaf.Object.{Object}
use Rattle.leaves.specs.declared.leaf.Object.TheVariants as object
use Rattle.ticks.specs.declared.ticks.Kind.TheVariants.{Name, Large}
use Rattle.operations.specs.Making.{text}
use Rattle.one_tree.specs.Found.{Set, in_tree, in_trees, in_pairs}
use Rattle.one_tree.specs.Sets.{AreIn}
use Rattle.one_tree.proofs.Changed.{both_in}
use Rattle.holding.proofs.Steps.{none_in, IfSome, IfGiven, either, or_fault_given, HasValue}
use Rattle.workspace.specs.Labels.{LabelParts}
use Rattle.targets.specs.Checks.{Dependency}
use Rattle.targets.specs.declared.attributes.AttributeValue.{AttributeValue}
use Rattle.targets.specs.declared.attributes.AttributeValue.TheVariants as has
use Rattle.targets.specs.TextDicts.{entry_key, entry_tree}
use Rattle.targets.specs.TextLists.{text_tree}
use Rattle.targets.specs.declared.target.Target.{Target}
use Rattle.outcomes.specs.Found.{in_target}
use Rattle.contexts.specs.Fields.{object_value, label_value, depset_value, frozen_list, target_field, context_field, value_for, element_tree, unless_large, target_tree, attribute_value, files_listed, files_or_name, labels_for, attr_field, object_field, field}
use Rattle.contexts.specs.Offered.{files_of}
use Rattle.workspace_laws.proofs.Offered.{map_some, map_all, in_dependencies, files_are_in, dependency_known}

-- ---- lists of what has no depset

all_bare : {A : Type 0} (f : A → FrozenTree) (s : List Set) → ((a : A) → AreIn (in_tree (f a)) s) → (xs : List A) → AreIn (in_trees (trees (map f xs))) s
all_bare f s k [] = none_in s
all_bare f s k (x ∷ xs) = both_in (in_tree (f x)) (in_trees (trees (map f xs))) s (k x) (all_bare f s k xs)

entries_bare : {A : Type 0} (k : A → Key) (f : A → FrozenTree) (s : List Set) → ((a : A) → AreIn (in_tree (f a)) s) → (xs : List A) → AreIn (in_pairs (pairs (map k xs) (map f xs))) s
entries_bare k f s bare [] = none_in s
entries_bare k f s bare (x ∷ xs) = both_in (in_tree (f x)) (in_pairs (pairs (map k xs) (map f xs))) s (bare x) (entries_bare k f s bare xs)

element_bare : (s : List Set) (e : Element) → AreIn (in_tree (element_tree e)) s
element_bare s (element.Text t) = none_in s
element_bare s (element.Number n) = none_in s
element_bare s (element.Truth b) = none_in s
element_bare s (element.Label t) = none_in s
element_bare s (element.File f) = none_in s

-- ---- a field of each

module _ (s : List Set) (t : Target) (ds : List Dependency) (known : AreIn (in_dependencies ds) s) where
  context_in : (l : LabelParts) (x : List ℕ) → IfSome (HasValue s) (context_field l x)
  context_in l x =
      either (IfSome (HasValue s)) (bytes_eq x (codes "label")) (Some (label_value l)) _ (none_in s)
      (either (IfSome (HasValue s)) (bytes_eq x (codes "attr")) (Some (object_value object.ContextAttr)) _ (none_in s)
      (either (IfSome (HasValue s)) (bytes_eq x (codes "files")) (Some (object_value object.ContextFiles)) _ (none_in s)
      (either (IfSome (HasValue s)) (bytes_eq x (codes "actions")) (Some (object_value object.ContextActions)) None (none_in s) tt)))

  attribute_in : (v : AttributeValue) → HasValue s (attribute_value ds v)
  attribute_in (has.Key k) = none_in s
  attribute_in (has.Strings ts) = all_bare text_tree s (λ t. none_in s) ts
  attribute_in (has.StringDict es) = entries_bare entry_key entry_tree s (λ e. none_in s) es
  attribute_in (has.Label None) = none_in s
  attribute_in (has.Label (Some l)) = none_in s
  attribute_in (has.Labels ls) = all_bare (target_tree ds) s (λ l. none_in s) ls

  attr_in : (l : LabelParts) (x : List ℕ) → IfSome (HasValue s) (attr_field t ds l x)
  attr_in l x =
      either (IfSome (HasValue s)) (bytes_eq x (codes "name")) (Some (text l.name)) (option_map (attribute_value ds) (value_for t x)) (none_in s)
      (map_all (HasValue s) (attribute_value ds) (value_for t x) attribute_in)

  listed_in : (es : List Element) → IfGiven (HasValue s) (unless_large es)
  listed_in es = either (IfGiven (HasValue s)) (nat_lt LARGEST (length es)) (Err Large) (Ok (frozen_list (map element_tree es))) tt (all_bare element_tree s (element_bare s) es)

  files_or_name_in : (o : Option (List LabelParts)) → IfGiven (HasValue s) (files_or_name walked ds o)
  files_or_name_in (Some ls) = listed_in (files_listed walked ds ls)
  files_or_name_in None = tt

  target_field_in : (o : Option Dependency) (x : List ℕ) → IfSome (λ d. AreIn (in_target d.1) s) o → IfSome (HasValue s) (target_field o x)
  target_field_in (Some d) x i =
      either (IfSome (HasValue s)) (bytes_eq x (codes "label")) (Some (label_value d.0)) _ (none_in s)
      (either (IfSome (HasValue s)) (bytes_eq x (codes "files")) (option_map depset_value (files_of d)) None
      (map_some (λ f. AreIn (nodes f) s) (HasValue s) depset_value (files_of d) (λ f j. j) (files_are_in s d i)) tt)
  target_field_in None x i = tt

  object_in : (l : LabelParts) (o : Object) (x : List ℕ) → IfGiven (HasValue s) (object_field walked t ds l o x)
  object_in l object.Context x = or_fault_given (HasValue s) Name (context_field l x) (context_in l x)
  object_in l object.ContextAttr x = or_fault_given (HasValue s) Name (attr_field t ds l x) (attr_in l x)
  object_in l object.ContextFiles x = files_or_name_in (labels_for (value_for t x))
  object_in l _ x = tt

  pub fields_are_in : (l : LabelParts) (o : Leaf) (x : List ℕ) → IfGiven (HasValue s) (field walked t ds l o x)
  fields_are_in l (plain.Target n) x = or_fault_given (HasValue s) Name (target_field (slice_get ds n) x) (target_field_in (slice_get ds n) x (dependency_known s ds known n))
  fields_are_in l (plain.Object o) x = object_in l o x
  fields_are_in l _ x = tt

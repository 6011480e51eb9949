-- The place of an implementation is the same by plain listings, where an id has one tree in the outcomes of its dependencies.
use Rattle.std.proofs.Common.{◌≡◌, ℕ, List, [], ◌∷◌, ◌++◌, Option, Some, None, ap, refl}
use Rattle.std.specs.Prelude.{slice_get}
use Rattle.depsets.specs.Flat.{nodes}
use Rattle.depsets.specs.Listed.{flat, walked}
use Rattle.depsets.proofs.Walked.{walked-flat}
use Rattle.leaves.specs.declared.leaf.Leaf.{Leaf}
use Rattle.leaves.specs.declared.leaf.Leaf.TheVariants as plain
use Rattle.leaves.specs.declared.leaf.Object.{Object}
use Rattle.leaves.specs.declared.leaf.Object.TheVariants as object
use Rattle.one_tree.specs.Found.{Set}
use Rattle.one_tree.specs.Sets.{IsOneTree, AreIn}
use Rattle.holding.proofs.Steps.{IfSome}
use Rattle.workspace.specs.Labels.{LabelParts}
use Rattle.targets.specs.Checks.{Dependency}
use Rattle.targets.specs.declared.target.Target.{Target}
use Rattle.outcomes.specs.Found.{in_target}
use Rattle.contexts.specs.Fields.{place_of, unless_large, labels_for, value_for, listed_or_empty, listed_files, files_listed, files_or_name, object_field, field}
use Rattle.contexts.specs.Offered.{files_of}
use Rattle.implementations.specs.Implementations.{implementation_place}
use Rattle.workspace_laws.proofs.Offered.{in_dependencies, files_are_in, dependency_known}
use Rattle.workspace_laws.specs.Places.{plain_place}

module _ (s : List Set) (one : IsOneTree s) where
  listing_same : (o : Option Set) → IfSome (λ d. AreIn (nodes d) s) o → listed_or_empty walked o ≡ listed_or_empty flat o
  listing_same (Some d) i = walked-flat d (λ a b p q e. one a b (i a p) (i b q) e)
  listing_same None i = refl

  listed_same : (o : Option Dependency) → IfSome (λ d. AreIn (in_target d.1) s) o → listed_files walked o ≡ listed_files flat o
  listed_same (Some d) i = listing_same (files_of d) (files_are_in s d i)
  listed_same None i = refl

  module _ (t : Target) (ds : List Dependency) (known : AreIn (in_dependencies ds) s) where
    all_same : (ls : List LabelParts) → files_listed walked ds ls ≡ files_listed flat ds ls
    all_same [] = refl
    all_same (l ∷ ls) =
        λ i. listed_same (slice_get ds (place_of ds l)) (dependency_known s ds known (place_of ds l)) i ++ all_same ls i

    files_same : (o : Option (List LabelParts)) → files_or_name walked ds o ≡ files_or_name flat ds o
    files_same (Some ls) = ap unless_large (all_same ls)
    files_same None = refl

    object_same : (l : LabelParts) (o : Object) (x : List ℕ) → object_field walked t ds l o x ≡ object_field flat t ds l o x
    object_same l object.ContextFiles x = files_same (labels_for (value_for t x))
    object_same l object.Attr x = refl
    object_same l object.Context x = refl
    object_same l object.ContextAttr x = refl
    object_same l object.ContextActions x = refl

    field_same : (l : LabelParts) (o : Leaf) (x : List ℕ) → field walked t ds l o x ≡ field flat t ds l o x
    field_same l (plain.Object o) x = object_same l o x
    field_same l plain.None x = refl
    field_same l (plain.Label u) x = refl
    field_same l (plain.File f) x = refl
    field_same l (plain.Depset d) x = refl
    field_same l (plain.Function f) x = refl
    field_same l (plain.BuiltIn b) x = refl
    field_same l (plain.Provider p) x = refl
    field_same l (plain.Rule r) x = refl
    field_same l (plain.Attribute a) x = refl
    field_same l (plain.Target n) x = refl

    pub place_same : (l : LabelParts) → implementation_place l t ds ≡ plain_place l t ds
    place_same l = λ i. record (implementation_place l t ds) { field = λ o x w. field_same l o x i }

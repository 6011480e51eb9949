-- The depsets in what targets offer are those of their outcomes.
use Rattle.std.proofs.Common.{◌≡◌, ℕ, zero, suc, List, [], ◌∷◌, Option, Some, None, Result, Ok, Err, map, subst}
use Rattle.std.specs.Prelude.{option_map, option_and_then, slice_get, codes}
use Rattle.std.specs.List.{flat_map}
use Rattle.depsets.specs.Flat.{nodes}
use Rattle.values.specs.Shape.{value_of, slot_of, shape}
use Rattle.values.specs.Tree.{Slots, key as key_tree, leaf, branch, list, tuple, dict, instance, slot_list}
use Rattle.values.specs.View.{FrozenTree}
use Rattle.values.specs.declared.cells.Cell.{Cell}
use Rattle.keys.specs.declared.key.Key.{Key}
use Rattle.leaves.specs.declared.leaf.Leaf.{Leaf}
use Rattle.leaves.specs.declared.leaf.Leaf.TheVariants as plain
use Rattle.leaves.specs.declared.leaf.Provider.{Provider}
use Rattle.ticks.specs.declared.ticks.Kind.{Kind}
use Rattle.ticks.specs.declared.ticks.Kind.TheVariants as fault
use Rattle.values.specs.declared.value.Value.{Value}
use Rattle.values.specs.declared.value.Value.TheVariants as value
use Rattle.first_places.specs.Places.{place_named}
use Rattle.operations.specs.Fields.{field_in}
use Rattle.operations.specs.Instances.{default_info}
use Rattle.one_tree.specs.Found.{Set, in_leaf, in_tree, in_value, in_outcome}
use Rattle.one_tree.specs.Sets.{AreIn}
use Rattle.one_tree.proofs.Amidst.{among_left, among_right}
use Rattle.holding.proofs.Steps.{none_in, through, same_in, IfSome, IfGiven, either, of_type_all, or_fault_given, HasValue, slot_placed_in, shape_shows}
use Rattle.targets.specs.Checks.{Dependency, is_of, provider_of}
use Rattle.targets.specs.declared.outcome.Outcome.{Outcome}
use Rattle.targets.specs.declared.outcome.Outcome.TheVariants.{Source, Done, Failed}
use Rattle.outcomes.specs.Found.{in_target, in_actions}
use Rattle.contexts.specs.Offered.{instances, instances_at, instance_of, value_depset, tree_files, files_of, provider_in, instance_at, item}

-- ---- what is there, if something is

pub some_as : {A : Type 0} (P Q : A → Type 0) (o : Option A) → ((a : A) → P a → Q a) → IfSome P o → IfSome Q o
some_as P Q (Some a) f h = f a h
some_as P Q None f h = tt

pub map_some : {A B : Type 0} (P : A → Type 0) (Q : B → Type 0) (f : A → B) (o : Option A) → ((a : A) → P a → Q (f a)) → IfSome P o → IfSome Q (option_map f o)
map_some P Q f (Some a) k h = k a h
map_some P Q f None k h = tt

pub map_all : {A B : Type 0} (Q : B → Type 0) (f : A → B) (o : Option A) → ((a : A) → Q (f a)) → IfSome Q (option_map f o)
map_all Q f (Some a) k = k a
map_all Q f None k = tt

pub then_some : {A B : Type 0} (P : A → Type 0) (Q : B → Type 0) (f : A → Option B) (o : Option A) → ((a : A) → P a → IfSome Q (f a)) → IfSome P o → IfSome Q (option_and_then f o)
then_some P Q f (Some a) k h = k a h
then_some P Q f None k h = tt

pub given_is : {A : Type 0} (P : A → Type 0) (r : Result A Kind) (a : A) → IfGiven P r → r ≡ Ok a → P a
given_is P (Ok b) a h e = let q : b ≡ a = cc in subst P q h
given_is P (Err k) a h e = absurd (cc)

-- ---- frozen values

value_in : (t : FrozenTree) → AreIn (in_value (value_of t)) (in_tree t)
value_in (key_tree k) = none_in []
value_in (leaf l) = same_in (in_leaf l)
value_in (branch b) = same_in (in_tree (branch b))

-- a depset that is a value has what is below it
depset_is : (s : List Set) (v : Value) → HasValue s v → IfSome (λ d. AreIn (nodes d) s) (value_depset v)
depset_is s (value.Leaf (plain.Depset d)) i = i
depset_is s (value.Leaf l) i = tt
depset_is s v i = tt

-- ---- the instances of an outcome

instances_in : (o : Outcome) → AreIn (in_outcome (instances o)) (in_target o)
instances_in (Source f) = same_in (in_target (Source f))
instances_in (Done ts actions) = λ d h. among_left d (in_outcome ts) (in_actions actions) h
instances_in (Failed e) = none_in []

one_in : (p : Provider) (ts : List FrozenTree) → IfSome (λ t. AreIn (in_tree t) (in_outcome ts)) (instance_of p ts)
one_in p [] = tt
one_in p (t ∷ ts) =
    either (IfSome (λ u. AreIn (in_tree u) (in_outcome (t ∷ ts)))) (is_of p (provider_of t)) (Some t) (instance_of p ts)
    (λ d h. among_left d (in_tree t) (in_outcome ts) h)
    (some_as (λ u. AreIn (in_tree u) (in_outcome ts)) (λ u. AreIn (in_tree u) (in_outcome (t ∷ ts))) (instance_of p ts)
    (λ u i d h. among_right d (in_tree t) (in_outcome ts) (i d h)) (one_in p ts))

-- one of them is among the depsets of the outcome
instance_in : (s : List Set) (p : Provider) (o : Outcome) → AreIn (in_target o) s → IfSome (λ t. AreIn (in_tree t) s) (instance_of p (instances o))
instance_in s p o i =
    some_as (λ t. AreIn (in_tree t) (in_outcome (instances o))) (λ t. AreIn (in_tree t) s) (instance_of p (instances o))
    (λ t j. through (in_tree t) (in_outcome (instances o)) s j (through (in_outcome (instances o)) (in_target o) s (instances_in o) i)) (one_in p (instances o))

-- ---- `files` of a target

-- only an instance has this field
leaf_files : (s : List Set) (l : Leaf) → IfSome (λ d. AreIn (nodes d) s) (tree_files (leaf l))
leaf_files s (plain.Label t) = tt
leaf_files s _ = tt

instance_files : (s : List Set) (p : Provider) (ss : Slots Leaf Key Provider) → AreIn (in_tree (branch (instance p ss))) s
    → IfSome (λ d. AreIn (nodes d) s) (tree_files (branch (instance p ss)))
instance_files s p ss i =
    let fs : List (Option Value) = map slot_of (slot_list ss) in
    then_some (HasValue s) (λ d. AreIn (nodes d) s) value_depset (field_in (codes "files") p.fields fs) (depset_is s)
    (slot_placed_in s fs (place_named (codes "files") p.fields) (shape_shows s [] (value.Frozen (instance p ss)) (none_in s) i))

tree_files_in : (s : List Set) (t : FrozenTree) → AreIn (in_tree t) s → IfSome (λ d. AreIn (nodes d) s) (tree_files t)
tree_files_in s (key_tree k) i = tt
tree_files_in s (leaf l) i = leaf_files s l
tree_files_in s (branch (list ts)) i = tt
tree_files_in s (branch (tuple ts)) i = tt
tree_files_in s (branch (dict ps)) i = tt
tree_files_in s (branch (instance p ss)) i = instance_files s p ss i

pub files_are_in : (s : List Set) (d : Dependency) → AreIn (in_target d.1) s → IfSome (λ f. AreIn (nodes f) s) (files_of d)
files_are_in s d i =
    then_some (λ t. AreIn (in_tree t) s) (λ f. AreIn (nodes f) s) tree_files (instance_of default_info (instances d.1)) (tree_files_in s) (instance_in s default_info d.1 i)

-- ---- the dependencies

-- the depsets in their outcomes
abbrev pub in_dependencies : List Dependency → List Set
in_dependencies ds = flat_map (λ d. in_target d.1) ds

pub dependency_in : (ds : List Dependency) (n : ℕ) → IfSome (λ d. AreIn (in_target d.1) (in_dependencies ds)) (slice_get ds n)
dependency_in [] n = tt
dependency_in (d ∷ ds) zero = λ e h. among_left e (in_target d.1) (in_dependencies ds) h
dependency_in (d ∷ ds) (suc n) =
    some_as (λ o. AreIn (in_target o.1) (in_dependencies ds)) (λ o. AreIn (in_target o.1) (in_dependencies (d ∷ ds))) (slice_get ds n)
    (λ o i e h. among_right e (in_target d.1) (in_dependencies ds) (i e h)) (dependency_in ds n)

-- ---- `t[P]`

module _ (s : List Set) (ds : List Dependency) (known : AreIn (in_dependencies ds) s) where
  pub dependency_known : (n : ℕ) → IfSome (λ d. AreIn (in_target d.1) s) (slice_get ds n)
  dependency_known n =
      some_as (λ d. AreIn (in_target d.1) (in_dependencies ds)) (λ d. AreIn (in_target d.1) s) (slice_get ds n)
      (λ d i. through (in_target d.1) (in_dependencies ds) s i known) (dependency_in ds n)

  of_dependency : (p : Provider) (o : Option Dependency) → IfSome (λ d. AreIn (in_target d.1) s) o → IfSome (λ t. AreIn (in_tree t) s) (instance_of p (instances_at o))
  of_dependency p (Some d) i = instance_in s p d.1 i
  of_dependency p None i = tt

  instance_at_in : (n : ℕ) (p : Provider) → IfGiven (HasValue s) (instance_at ds n p)
  instance_at_in n p =
      or_fault_given (HasValue s) fault.Key (option_map value_of (instance_of p (instances_at (slice_get ds n))))
      (map_some (λ t. AreIn (in_tree t) s) (HasValue s) value_of (instance_of p (instances_at (slice_get ds n)))
      (λ t i. through (in_value (value_of t)) (in_tree t) s (value_in t) i) (of_dependency p (slice_get ds n) (dependency_known n)))

  pub items_are_in : (h : List Cell) (n : ℕ) (v : Value) → IfGiven (HasValue s) (item ds h n v)
  items_are_in h n v = of_type_all (HasValue s) (provider_in (shape h v)) (instance_at ds n) (instance_at_in n)

-- What the targets offer that an implementation depends on (Bazel documentation, "Target",
-- "Providers" and "DefaultInfo"; docs/PROFILE.md, "Fields").
use Rattle.std.specs.Prelude.{ℕ, Bool, List, [], ◌∷◌, Option, Some, None, option_map}
use Rattle.std.specs.Prelude.{option_and_then, slice_get, Result, Ok, codes, if◌then◌else◌}
use Rattle.depsets.specs.Own.{Own}
use Rattle.depsets.specs.Rose.{Rose}
use Rattle.values.specs.Shape.{Shape, atom, shape, tree_shape, value_of}
use Rattle.values.specs.View.{FrozenTree}
use Rattle.values.specs.declared.cells.Cell.{Cell}
use Rattle.leaves.specs.declared.leaf.Leaf.{Leaf}
use Rattle.leaves.specs.declared.leaf.Leaf.TheVariants as plain
use Rattle.leaves.specs.declared.leaf.Provider.{Provider}
use Rattle.ticks.specs.declared.ticks.Kind.{Kind}
use Rattle.ticks.specs.declared.ticks.Kind.TheVariants as fault
use Rattle.values.specs.declared.value.Value.{Value}
use Rattle.values.specs.declared.value.Value.TheVariants as value
use Rattle.operations.specs.Fields.{shape_field}
use Rattle.operations.specs.Instances.{default_info}
use Rattle.operations.specs.Items.{or_fault}
use Rattle.operations.specs.Reading.{leaf_depset, of_type}
use Rattle.targets.specs.Checks.{Dependency, provider_of, is_of, offers as has_instance}
use Rattle.targets.specs.Sources.{source_files, info_with}
use Rattle.targets.specs.declared.outcome.Outcome.{Outcome}
use Rattle.targets.specs.declared.outcome.Outcome.TheVariants.{Source, Done, Failed}

-- ---- the instances that a target offers

-- what an outcome offers: a source file `DefaultInfo` alone, a target the instances of its outcome,
-- of which one is a `DefaultInfo`, and one that failed nothing
abbrev pub instances : Outcome → List FrozenTree
instances (Source f) = info_with (source_files f) ∷ []
instances (Done ts actions) = ts
instances (Failed e) = []

-- those of the target at a place among the dependencies
abbrev pub instances_at : Option Dependency → List FrozenTree
instances_at (Some d) = instances d.1
instances_at None = []

-- the first of the instances that is of this provider, if one is
abbrev pub instance_of : Provider → List FrozenTree → Option FrozenTree
instance_of p [] = None
instance_of p (t ∷ ts) = if is_of p (provider_of t) then Some t else instance_of p ts

-- ---- `files` of a target: the depset of its `DefaultInfo`

-- the depset that a value is, if it is one
abbrev pub value_depset : Value → Option (Rose Own)
value_depset (value.Leaf l) = leaf_depset l
value_depset _ = None

-- the depset in the field `files` of an instance, if there is one
abbrev pub tree_files : FrozenTree → Option (Rose Own)
tree_files t = option_and_then value_depset (shape_field (tree_shape t) (codes "files"))

-- the `files` of the `DefaultInfo` among some instances
abbrev pub files_in : List FrozenTree → Option (Rose Own)
files_in ts = option_and_then tree_files (instance_of default_info ts)

-- those of a dependency's target
abbrev pub files_of : Dependency → Option (Rose Own)
files_of d = files_in (instances d.1)

-- ---- `t[P]` and `P in t`

-- the provider that a leaf is, if it is one
abbrev pub leaf_provider : Leaf → Option Provider
leaf_provider (plain.Provider p) = Some p
leaf_provider _ = None

-- the same, of a value
abbrev pub provider_in : Shape → Option Provider
provider_in (atom l) = leaf_provider l
provider_in _ = None

-- the dependencies of a target with their outcomes
module _ (ds : List Dependency) where
  -- the instance of a provider that the target at a place offers, or `key` where there is none
  abbrev pub instance_at : ℕ → Provider → Result Value Kind
  instance_at n p =
      or_fault fault.Key (option_map value_of (instance_of p (instances_at (slice_get ds n))))

  -- `t[P]` of the target at a place: its instance of P; `type` where P is no provider
  abbrev pub item : List Cell → ℕ → Value → Result Value Kind
  item h n v = of_type (provider_in (shape h v)) (instance_at n)

  -- `P in t` of the target at a place: whether it offers P; `type` where P is no provider
  abbrev pub offers : List Cell → ℕ → Value → Result Bool Kind
  offers h n v = of_type (provider_in (shape h v))
      (λ p. Ok (has_instance (instances_at (slice_get ds n)) p))

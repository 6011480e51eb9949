-- Which dependencies an attribute takes (Bazel documentation, "attr.label", `providers` and
-- `allow_files`; that targets are tested by the one alone and source files by the other is this
-- project's own; docs/PROFILE.md, "Checks of dependencies").
use Rattle.std.specs.Prelude.{ℕ, Bool, true, false, ◌||◌, nat_eq, List, [], ◌∷◌, length, Option}
use Rattle.std.specs.Option.{option_or}
use Rattle.std.specs.Prelude.{Some, None, if◌then◌else◌}
use Rattle.std.specs.List.{list_any, list_all, ends_with}
use Rattle.leaves.specs.Leaves.{same_provider}
use Rattle.values.specs.Tree.{branch, instance}
use Rattle.values.specs.View.{FrozenTree, FrozenBranch}
use Rattle.leaves.specs.declared.leaf.Provider.{Provider}
use Rattle.workspace.specs.Labels.{LabelParts, same_label}
use Rattle.targets.specs.Attributes.{labels_in}
use Rattle.targets.specs.declared.attributes.AllowFiles.{AllowFiles}
use Rattle.targets.specs.declared.attributes.AllowFiles.TheVariants as allowed
use Rattle.targets.specs.declared.attributes.AttributeValue.{AttributeValue}
use Rattle.targets.specs.declared.attributes.NamedAttribute.{NamedAttribute}
use Rattle.targets.specs.declared.outcome.Outcome.{Outcome}
use Rattle.targets.specs.declared.outcome.Outcome.TheVariants.{Source, Done, Failed}
use Rattle.targets.specs.declared.outcome.TargetFault.{TargetFault}
use Rattle.targets.specs.declared.outcome.TargetFault.TheVariants as fault

-- a dependency with its outcome
abbrev pub Dependency : Type 0
Dependency = LabelParts × Outcome

-- ---- targets

-- the provider of an instance; a list, a tuple or a dict has none
abbrev pub branch_provider : FrozenBranch → Option Provider
branch_provider (instance p fs) = Some p
branch_provider _ = None

-- the provider that a value is an instance of, if it is one
abbrev pub provider_of : FrozenTree → Option Provider
provider_of (branch b) = branch_provider b
provider_of _ = None

-- whether it is this provider's, of what was found to be an instance or none
abbrev pub is_of : Provider → Option Provider → Bool
is_of p (Some q) = same_provider p q
is_of p None = false

-- one of the instances is the provider's
abbrev pub offers : List FrozenTree → Provider → Bool
offers ts p = list_any (λ t. is_of p (provider_of t)) ts

-- each of these providers has one of the instances
abbrev pub offers_all : List FrozenTree → List Provider → Bool
offers_all ts ps = list_all (offers ts) ps

-- all providers of at least one list, or there is no list
abbrev pub offers_enough : List FrozenTree → List (List Provider) → Bool
offers_enough ts lists = nat_eq (length lists) 0 || list_any (offers_all ts) lists

-- ---- source files

-- an extension is told by bytes: a dot isn't asked, and the empty text fits all
abbrev pub takes_file : AllowFiles → List ℕ → Bool
takes_file allowed.Any path = true
takes_file allowed.Nothing path = false
takes_file (allowed.Ending es) path = list_any (λ e. ends_with nat_eq path e) es

-- ---- both

-- why an attribute refuses a dependency that didn't fail
abbrev pub refusal : NamedAttribute → Dependency → Option TargetFault
refusal a (l, Source f) =
    if takes_file a.attribute.allow_files f.path then None else Some (fault.FileKind a.name l)
refusal a (l, Done ts actions) =
    if offers_enough ts a.attribute.providers then None else Some (fault.ProvidersMissing a.name l)
refusal a (l, Failed e) = None

-- the dependency of a label
abbrev pub dependency_of : List Dependency → LabelParts → Option Dependency
dependency_of [] l = None
dependency_of (d ∷ ds) l = if same_label l d.0 then Some d else dependency_of ds l

-- why an attribute refuses the dependency of a label; a label that is no dependency isn't refused
abbrev pub refused : NamedAttribute → Option Dependency → Option TargetFault
refused a (Some d) = refusal a d
refused a None = None

-- the first label of a value whose dependency is refused
abbrev pub first_in_value : List Dependency → NamedAttribute → List LabelParts → Option TargetFault
first_in_value ds a [] = None
first_in_value ds a (l ∷ ls) = option_or (refused a (dependency_of ds l)) (first_in_value ds a ls)

-- The first dependency that is refused, by attribute and then by value; one that stands in two
-- attributes is tested by both.
abbrev pub first_refused : List Dependency → List NamedAttribute → List AttributeValue
    → Option TargetFault
first_refused ds [] vs = None
first_refused ds (a ∷ rest) [] = None
first_refused ds (a ∷ rest) (v ∷ vs) =
    option_or (first_in_value ds a (labels_in v)) (first_refused ds rest vs)

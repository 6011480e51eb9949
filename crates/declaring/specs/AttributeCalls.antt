-- Declarations of attributes (Bazel documentation, "attr"; which values each parameter takes is
-- docs/PROFILE.md, "Calls for attributes"). All that is wrong, once the arguments fit, is `type`.
use Rattle.std.specs.Prelude.{ℕ, Bool, true, false, List, [], ◌∷◌, ◌++◌, length, Option, Some, None}
use Rattle.std.specs.Prelude.{option_map, option_and_then, Result, Ok, Err, codes}
use Rattle.std.specs.Option.{option_or}
use Rattle.values.specs.Shape.{Shape, key, atom, items, entries, shape}
use Rattle.values.specs.declared.cells.Cell.{Cell}
use Rattle.keys.specs.declared.key.Key.{Key}
use Rattle.keys.specs.declared.key.Key.TheVariants as index
use Rattle.leaves.specs.declared.leaf.AttributeKind.{AttributeKind}
use Rattle.leaves.specs.declared.leaf.AttributeKind.TheVariants as kind
use Rattle.leaves.specs.declared.leaf.Leaf.TheVariants as plain
use Rattle.leaves.specs.declared.leaf.Provider.{Provider}
use Rattle.ticks.specs.declared.ticks.Kind.{Kind}
use Rattle.ticks.specs.declared.ticks.Kind.TheVariants.{Wrong}
use Rattle.values.specs.declared.value.Value.{Value}
use Rattle.values.specs.declared.value.Value.TheVariants as value
use Rattle.operations.specs.Arguments.{Given, Parameter, given_for, named_only, bound}
use Rattle.operations.specs.Reading.{string_in, sequence_in}
use Rattle.operations.specs.States.{then_give}
use Rattle.operations.specs.declared.state.State.{State}
use Rattle.workspace.specs.Labels.{LabelParts, label_of}
use Rattle.targets.specs.RuleCalls.{each_of}
use Rattle.targets.specs.TextDicts.{text_entry}
use Rattle.targets.specs.declared.attributes.AllowFiles.{AllowFiles}
use Rattle.targets.specs.declared.attributes.AllowFiles.TheVariants as allowed
use Rattle.targets.specs.declared.attributes.Attribute.{Attribute}
use Rattle.targets.specs.declared.attributes.AttributeValue.{AttributeValue}
use Rattle.targets.specs.declared.attributes.AttributeValue.TheVariants as has
use Rattle.declaring.specs.NewNames.{may_be_doc}
use Rattle.targets.specs.declared.declarations.Declarations.{Declarations}

-- ---- what a call may give, all of it by name

-- what the calls for attributes of all kinds take, with what only some kinds take
abbrev pub and_others : List Parameter → List Parameter
and_others ps =
    named_only (codes "default") ∷ named_only (codes "mandatory") ∷ named_only (codes "doc") ∷ ps

-- strings and numbers may be restricted, labels may be asked for providers and kinds of files
abbrev pub attribute_parameters : AttributeKind → List Parameter
attribute_parameters kind.String = and_others (named_only (codes "values") ∷ [])
attribute_parameters kind.Int = and_others (named_only (codes "values") ∷ [])
attribute_parameters kind.Bool = and_others []
attribute_parameters kind.StringList = and_others []
attribute_parameters kind.StringDict = and_others []
attribute_parameters kind.Label =
    and_others (named_only (codes "providers") ∷ named_only (codes "allow_files") ∷ [])
attribute_parameters kind.LabelList =
    and_others (named_only (codes "providers") ∷ named_only (codes "allow_files") ∷ [])

-- what a call gives for a parameter, also where that is None
abbrev pub named : Given → List ℕ → Option Value
named g x = given_for x g.names g.values

-- ---- what each parameter takes

-- the bool that a value is, if it is one
abbrev pub truth_in : Shape → Option Bool
truth_in (key (index.Truth b)) = Some b
truth_in _ = None

-- `mandatory`
abbrev pub mandatory_in : List Cell → Option Value → Option Bool
mandatory_in h None = Some false
mandatory_in h (Some v) = truth_in (shape h v)

-- a string of an attribute of strings, a whole number of one of numbers
abbrev pub key_of_kind : AttributeKind → Shape → Option Key
key_of_kind kind.String (key (index.Text t)) = Some (index.Text t)
key_of_kind kind.Int (key (index.Number n)) = Some (index.Number n)
key_of_kind _ _ = None

-- the provider that a value is, if it is one
abbrev pub provider_in : Shape → Option Provider
provider_in (atom (plain.Provider p)) = Some p
provider_in _ = None

-- a label of a default is read without a package, so that it begins with `//`
abbrev pub whole_label_in : Shape → Option LabelParts
whole_label_in s = option_and_then (λ t. label_of t None) (string_in s)

module _ (h : List Cell) where
  -- What is shown, as a default of this kind. A list of strings is no tuple, a list of labels may
  -- be one; None is a label's. Of a dict all keys and all values are strings.
  abbrev pub default_typed : AttributeKind → Shape → Option AttributeValue
  default_typed kind.String (key (index.Text t)) = Some (has.Key (index.Text t))
  default_typed kind.Int (key (index.Number n)) = Some (has.Key (index.Number n))
  default_typed kind.Bool (key (index.Truth b)) = Some (has.Key (index.Truth b))
  default_typed kind.StringList (items true xs) =
      option_map has.Strings (each_of (λ v. string_in (shape h v)) xs)
  default_typed kind.StringDict (entries es) = option_map has.StringDict (each_of (text_entry h) es)
  default_typed kind.Label (atom plain.None) = Some (has.Label None)
  default_typed kind.Label (key (index.Text t)) =
      option_map (λ l. has.Label (Some l)) (label_of t None)
  default_typed kind.LabelList (items j xs) =
      option_map has.Labels (each_of (λ v. whole_label_in (shape h v)) xs)
  default_typed _ _ = None

  -- `default`, which may be missing
  abbrev pub default_in : AttributeKind → Option Value → Option (Option AttributeValue)
  default_in k None = Some None
  default_in k (Some v) = option_map Some (default_typed k (shape h v))

  -- `values`
  abbrev pub values_in : AttributeKind → Option Value → Option (List Key)
  values_in k None = Some []
  values_in k (Some v) =
      option_and_then (each_of (λ x. key_of_kind k (shape h x))) (sequence_in (shape h v))

  -- the providers that these values are, if each is one
  abbrev pub all_providers : List Value → Option (List Provider)
  all_providers vs = each_of (λ v. provider_in (shape h v)) vs

  -- `[A, B]` means `[[A, B]]`, and `[]` asks nothing
  abbrev pub provider_lists : List Value → Option (List (List Provider))
  provider_lists [] = Some []
  provider_lists (v ∷ vs) =
      option_or (option_map (λ ps. ps ∷ []) (all_providers (v ∷ vs)))
      (each_of (λ x. option_and_then all_providers (sequence_in (shape h x))) (v ∷ vs))

  -- `providers`: a sequence of providers, or of sequences of them
  abbrev pub providers_in : Option Value → Option (List (List Provider))
  providers_in None = Some []
  providers_in (Some v) = option_and_then provider_lists (sequence_in (shape h v))

  -- `allow_files`: a bool, or a sequence of strings
  abbrev pub files_shown : Shape → Option AllowFiles
  files_shown (key (index.Truth true)) = Some allowed.Any
  files_shown (key (index.Truth false)) = Some allowed.Nothing
  files_shown (items j xs) = option_map allowed.Ending (each_of (λ v. string_in (shape h v)) xs)
  files_shown _ = None

  -- what the parameter `allow_files` gives; without it, an attribute takes no source files
  abbrev pub allow_files_in : Option Value → Option AllowFiles
  allow_files_in None = Some allowed.Nothing
  allow_files_in (Some v) = files_shown (shape h v)

-- ---- the declaration

-- the declaration of an attribute, if each of its parameters was given what it takes
abbrev pub attribute_of : AttributeKind → Bool → Option (Option AttributeValue) → Option Bool
    → Option (List Key) → Option (List (List Provider)) → Option AllowFiles → Option Attribute
attribute_of k true (Some d) (Some m) (Some ks) (Some ps) (Some fs) =
    Some
    (record { kind = k; default = d; mandatory = m; values = ks; providers = ps; allow_files = fs })
attribute_of k _ _ _ _ _ _ = None

-- what a call whose arguments fit declares; a parameter that the kind doesn't have is missing
abbrev pub attribute_in : List Cell → AttributeKind → Given → Option Attribute
attribute_in h k g =
    attribute_of k (may_be_doc h (named g (codes "doc")))
    (default_in h k (named g (codes "default"))) (mandatory_in h (named g (codes "mandatory")))
    (values_in h k (named g (codes "values"))) (providers_in h (named g (codes "providers")))
    (allow_files_in h (named g (codes "allow_files")))

-- a declaration takes the next number of the module that is evaluated, and is named by its path and
-- by this number
abbrev pub attribute_value : State → AttributeKind → ℕ → Value
attribute_value s k n =
    value.Leaf (plain.Attribute (record { kind = k; path = s.owner; number = n }))

-- one more declaration, which has the next number of its module
abbrev pub with_attribute : Declarations → Attribute → Declarations
with_attribute d a = record d { attributes = d.attributes ++ a ∷ [] }

-- the value that a call for an attribute gives, and the declarations then; `type` where something
-- isn't as it has to be
abbrev pub attribute_declared : State → Declarations → Option Attribute
    → Result (Value × Declarations) Kind
attribute_declared s d (Some a) =
    Ok (attribute_value s a.kind (length d.attributes), with_attribute d a)
attribute_declared s d None = Err Wrong

-- attr.string(..), attr.int(..), attr.bool(..), attr.string_list(..), attr.string_dict(..),
-- attr.label(..), attr.label_list(..)
abbrev pub new_attribute : AttributeKind → Given → State → Declarations
    → Result (Value × Declarations) Kind
new_attribute k g s d =
    then_give (bound (attribute_parameters k) g)
    (λ os. attribute_declared s d (attribute_in s.heap k g))

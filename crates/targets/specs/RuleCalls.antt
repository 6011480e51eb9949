-- The call of a rule, which declares a target (Bazel documentation, "Rules", "Target
-- instantiation"; the order of the faults is this project's own; docs/PROFILE.md, "Calling a
-- rule").
use Rattle.std.specs.Prelude.{ℕ, Bool, true, false, not, ◌&&◌, ◌||◌, nat_eq, List, [], ◌∷◌, length}
use Rattle.std.specs.Prelude.{Option, Some, None, option_map, option_and_then, Ok, Err, is_some}
use Rattle.std.specs.Prelude.{if◌then◌else◌, codes, bytes_eq}
use Rattle.std.specs.List.{list_any, list_all, cons_option}
use Rattle.leaves.specs.Leaves.{same_key}
use Rattle.values.specs.Shape.{Shape, key, items, entries, shape}
use Rattle.ticks.specs.Ticking.{Count, Ticking, then_on}
use Rattle.values.specs.Visits.{all_of}
use Rattle.values.specs.declared.cells.Cell.{Cell}
use Rattle.keys.specs.declared.key.Key.{Key}
use Rattle.keys.specs.declared.key.Key.TheVariants as index
use Rattle.leaves.specs.declared.leaf.Leaf.TheVariants as plain
use Rattle.leaves.specs.declared.leaf.AttributeKind.{AttributeKind}
use Rattle.leaves.specs.declared.leaf.AttributeKind.TheVariants as kind
use Rattle.ticks.specs.declared.ticks.Kind.TheVariants.{Wrong, Arity, Key as key_fault, Place}
use Rattle.ticks.specs.declared.ticks.TheConstants.{VISITED_LEVELS}
use Rattle.values.specs.declared.value.Value.{Value}
use Rattle.values.specs.declared.value.Value.TheVariants as value
use Rattle.visits.specs.Freeze.{freeze_at}
use Rattle.operations.specs.Arguments.{Given, given_for}
use Rattle.operations.specs.Reading.{string_in}
use Rattle.operations.specs.States.{Op, with_ticks}
use Rattle.workspace.specs.Labels.{LabelParts, label_of, legal_label, same_label}
use Rattle.targets.specs.Attributes.{default_of, is_private}
use Rattle.targets.specs.TextDicts.{text_entry}
use Rattle.targets.specs.declared.attributes.Attribute.{Attribute}
use Rattle.targets.specs.declared.attributes.AttributeValue.{AttributeValue}
use Rattle.targets.specs.declared.attributes.AttributeValue.TheVariants as has
use Rattle.targets.specs.declared.attributes.NamedAttribute.{NamedAttribute}
use Rattle.targets.specs.declared.attributes.Rule.{Rule}
use Rattle.targets.specs.declared.target.Target.{Target}

-- ---- what was given

-- None counts as not given
abbrev pub unless_none : Option Value → Option Value
unless_none (Some (value.Leaf plain.None)) = None
unless_none o = o

-- what was given for an attribute, or for `name`
abbrev pub given_as : Given → List ℕ → Option Value
given_as g x = unless_none (given_for x g.names g.values)

-- whether something was given for it
abbrev pub is_given : Given → List ℕ → Bool
is_given g x = is_some (given_as g x)

-- ---- `arity`: a position; a name that is unknown or private, whatever stands for it; `name` or a
-- mandatory attribute that isn't given

-- what a call may name: `name`, and each attribute that isn't private
abbrev pub may_name : List NamedAttribute → List ℕ → Bool
may_name attributes x =
    bytes_eq x (codes "name")
    || (not (is_private x) && list_any (λ a. bytes_eq x a.name) attributes)

-- a mandatory attribute that isn't given
abbrev pub is_missed : Given → NamedAttribute → Bool
is_missed g a = a.attribute.mandatory && not (is_given g a.name)

-- whether the arguments of a call fit the rule, so that none of these is so
abbrev pub fits : Rule → Given → Bool
fits r g =
    nat_eq (length g.items) 0 && (list_all (may_name r.attributes) g.names
    && (is_given g (codes "name") && not (list_any (is_missed g) r.attributes)))

-- ---- `type`: the name makes no label; a value of another type; a text that is no label; a string
-- or number that isn't allowed

-- an empty list of values allows all
abbrev pub is_allowed : List Key → Key → Bool
is_allowed ks k = nat_eq (length ks) 0 || list_any (same_key k) ks

-- the value, if the attribute allows it
abbrev pub if_allowed : List Key → Key → Option AttributeValue
if_allowed ks k = if is_allowed ks k then Some (has.Key k) else None

-- each of a list, unless one is none
abbrev pub each_of : {A B : Type 0} → (A → Option B) → List A → Option (List B)
each_of f [] = Some []
each_of f (x ∷ xs) = option_and_then (λ y. option_map (λ ys. y ∷ ys) (each_of f xs)) (f x)

-- Values of the heap, and the texts of labels, which are read in the package of the BUILD file that
-- runs, also where a function of another package makes the call.
module _ (h : List Cell) («package» : List ℕ) where
  -- the label that a value shows as a text, if it shows one
  abbrev pub label_in : Shape → Option LabelParts
  label_in s = option_and_then (λ t. label_of t (Some «package»)) (string_in s)

  -- What is shown, as a value of an attribute of this kind. A list attribute takes a list, and no
  -- tuple. Of a dict all keys and all values are strings.
  abbrev pub typed : AttributeKind → List Key → Shape → Option AttributeValue
  typed kind.String allowed (key (index.Text t)) = if_allowed allowed (index.Text t)
  typed kind.Int allowed (key (index.Number n)) = if_allowed allowed (index.Number n)
  typed kind.Bool allowed (key (index.Truth b)) = Some (has.Key (index.Truth b))
  typed kind.StringList allowed (items true xs) =
      option_map has.Strings (each_of (λ v. string_in (shape h v)) xs)
  typed kind.StringDict allowed (entries es) = option_map has.StringDict (each_of (text_entry h) es)
  typed kind.Label allowed (key (index.Text t)) =
      option_map (λ l. has.Label (Some l)) (label_of t (Some «package»))
  typed kind.LabelList allowed (items true xs) =
      option_map has.Labels (each_of (λ v. label_in (shape h v)) xs)
  typed _ _ _ = None

  -- what was given, if it is of the attribute's kind; the default where nothing was given
  abbrev pub given_or_default : Attribute → Option Value → Option AttributeValue
  given_or_default a None = Some (default_of a)
  given_or_default a (Some v) = typed a.kind a.values (shape h v)

  -- what the target has for an attribute: what was given, else the default, which isn't asked
  -- whether it is allowed
  abbrev pub value_for : Given → NamedAttribute → Option AttributeValue
  value_for g a = given_or_default a.attribute (given_as g a.name)

  -- The target's label, whose name is what was given as `name`. That is no text of a label: `:x`
  -- and `//a:x` are refused.
  abbrev pub label_from : Option Value → Option LabelParts
  label_from None = None
  label_from (Some v) =
      option_and_then (λ t. legal_label (record { «package» = «package»; name = t }))
      (string_in (shape h v))

-- ---- `key`: a label twice in a list that was given; a name that the package has declared

-- whether a label stands there twice
abbrev pub repeats : List LabelParts → Bool
repeats [] = false
repeats (l ∷ ls) = list_any (same_label l) ls || repeats ls

-- whether a value is a list of labels that has one twice
abbrev pub repeats_label : AttributeValue → Bool
repeats_label (has.Labels ls) = repeats ls
repeats_label _ = false

-- Whether a list of labels that was given for one of these attributes has one twice. A default may
-- have a label twice.
abbrev pub repeats_given : List NamedAttribute → Given → List AttributeValue → Bool
repeats_given [] g vs = false
repeats_given (a ∷ rest) g [] = false
repeats_given (a ∷ rest) g (v ∷ vs) =
    (is_given g a.name && repeats_label v) || repeats_given rest g vs

-- whether a target of this label is among those that were declared
abbrev pub has_declared : List Target → LabelParts → Bool
has_declared ts l = list_any (λ t. same_label l t.label) ts

-- ---- `steps`: what was given is frozen, without `name`, in the order of the rule's attributes

-- what was given for the attributes of a rule, in their order
abbrev pub given_values : List NamedAttribute → Given → List Value
given_values [] g = []
given_values (a ∷ rest) g = cons_option (given_as g a.name) (given_values rest g)

-- what freezing all that comes to: the ticks after it, or its fault
abbrev pub frozen_given : Rule → Given → List Cell → Count → Ticking (Unit {0})
frozen_given r g h c =
    then_on (all_of (freeze_at VISITED_LEVELS h) (given_values r.attributes g) c)
    (λ ts d. Ok (tt, d))

-- ---- the call

-- the target, once what was given is frozen: that takes ticks, and no target sees a later change of
-- what was given
abbrev pub after_freezing : Target → Rule → Given → Op Target
after_freezing t r g s = with_ticks s (then_on (frozen_given r g s.heap s.ticks) (λ u d. Ok (t, d)))

-- a call that fits, by the label and the values that it gives: `type` where it gives none, then
-- `key`, then `steps`
abbrev pub typed_call : Rule → List Target → Given → Option LabelParts
    → Option (List AttributeValue) → Op Target
typed_call r declared g (Some l) (Some vs) s =
    if repeats_given r.attributes g vs || has_declared declared l then Err key_fault
    else after_freezing (record { label = l; rule = r; values = vs }) r g s
typed_call r declared g _ _ s = Err Wrong

-- A call of a rule while the BUILD file of a package runs, which has declared some targets so far:
-- one more target, or the first of `arity`, `type`, `key` and `steps`.
abbrev pub declares : List ℕ → List Target → Rule → Given → Op Target
declares «package» declared r g s =
    if fits r g
    then typed_call r declared g (label_from s.heap «package» (given_as g (codes "name")))
    (each_of (value_for s.heap «package» g) r.attributes) s
    else Err Arity

-- what runs where a rule is called: a BUILD file, with its package and the targets that it has
-- declared; a module; or an implementation
pub data Running : Type 0 where
  build_file : List ℕ → List Target → Running
  module_file : Running
  implementation : Running

-- Only a BUILD file declares targets; elsewhere a call of a rule is `place`, before all else.
abbrev pub rule_call : Running → Rule → Given → Op Target
rule_call (build_file «package» declared) r g s = declares «package» declared r g s
rule_call module_file r g s = Err Place
rule_call implementation r g s = Err Place

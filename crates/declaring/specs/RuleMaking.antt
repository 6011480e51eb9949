-- The call of `rule` (Bazel documentation, "rule"; docs/PROFILE.md, "Calls for providers and rules"
-- and "Attributes").
use Rattle.std.specs.Prelude.{ℕ, Bool, true, List, [], ◌∷◌, ◌++◌, length, slice_get, Option, Some}
use Rattle.std.specs.Prelude.{None, option_and_then, Result, Ok, Err, codes, bytes_eq}
use Rattle.std.specs.Prelude.{if◌then◌else◌}
use Rattle.values.specs.Shape.{Shape, key, atom, entries, shape}
use Rattle.keys.specs.declared.key.Key.{Key}
use Rattle.leaves.specs.declared.leaf.AttributeRef.{AttributeRef}
use Rattle.leaves.specs.declared.leaf.ExportName.TheVariants as export
use Rattle.leaves.specs.declared.leaf.FunctionRef.{FunctionRef}
use Rattle.leaves.specs.declared.leaf.Leaf.TheVariants as plain
use Rattle.leaves.specs.declared.leaf.RuleRef.{RuleRef}
use Rattle.ticks.specs.declared.ticks.Kind.{Kind}
use Rattle.ticks.specs.declared.ticks.Kind.TheVariants.{Wrong, Arity}
use Rattle.values.specs.declared.value.Value.{Value}
use Rattle.values.specs.declared.value.Value.TheVariants as value
use Rattle.operations.specs.Arguments.{Given, Parameter, Bound, wanted, optional, named_only, bound}
use Rattle.operations.specs.declared.state.State.{State}
use Rattle.targets.specs.Attributes.{are_attributes}
use Rattle.targets.specs.RuleCalls.{each_of}
use Rattle.targets.specs.declared.attributes.Attribute.{Attribute}
use Rattle.targets.specs.declared.attributes.NamedAttribute.{NamedAttribute}
use Rattle.targets.specs.declared.attributes.Rule.{Rule}
use Rattle.declaring.specs.NewNames.{name_in, may_be_doc}
use Rattle.targets.specs.declared.declarations.Declarations.{Declarations}

-- rule(implementation, attrs = {}, *, doc = "")
abbrev pub rule_parameters : List Parameter
rule_parameters =
    wanted (codes "implementation") ∷ optional (codes "attrs") ∷ named_only (codes "doc") ∷ []

-- a function written in Starlark, of any module; a built-in is none
abbrev pub function_in : Shape → Option FunctionRef
function_in (atom (plain.Function f)) = Some f
function_in _ = None

-- the declaration of an attribute that a value names, if it is what a call as `attr.label(..)` gave
abbrev pub reference_in : Shape → Option AttributeRef
reference_in (atom (plain.Attribute a)) = Some a
reference_in _ = None

-- What other modules declared, by their paths and by numbers.
module _ (linked : List ℕ → ℕ → Option Attribute) (s : State) (d : Declarations) where
  -- a declaration may be one of another module
  abbrev pub declaration : AttributeRef → Option Attribute
  declaration a =
      if bytes_eq a.path s.owner then slice_get d.attributes a.number else linked a.path a.number

  -- the declaration that a value of `attrs` is, if it is one
  abbrev pub declaration_in : Shape → Option Attribute
  declaration_in v = option_and_then declaration (reference_in v)

  -- an attribute of a rule, if its name and its declaration are right
  abbrev pub named_attribute : Option (List ℕ) → Option Attribute → Option NamedAttribute
  named_attribute (Some x) (Some a) = Some (record { name = x; attribute = a })
  named_attribute _ _ = None

  -- the attribute that an entry of `attrs` is, if it is one
  abbrev pub attribute_entry : Key × Value → Option NamedAttribute
  attribute_entry e = named_attribute (name_in (key e.0)) (declaration_in (shape s.heap e.1))

  -- these attributes, if a rule may have them
  abbrev pub if_attributes : List NamedAttribute → Option (List NamedAttribute)
  if_attributes named = if are_attributes named then Some named else None

  -- the attributes: a dict from names to declarations; `name` is none, and a private one has a
  -- default that was given
  abbrev pub attributes_shown : Shape → Option (List NamedAttribute)
  attributes_shown (entries es) = option_and_then if_attributes (each_of attribute_entry es)
  attributes_shown _ = None

  -- what the parameter `attrs` gives; without it, a rule has no attributes of its own
  abbrev pub attributes_in : Option Value → Option (List NamedAttribute)
  attributes_in None = Some []
  attributes_in (Some v) = attributes_shown (shape s.heap v)

  -- a rule takes the next number of the module that is evaluated; until its end it is called by it
  abbrev pub next_rule : RuleRef
  next_rule = record {
    id = record { «module» = s.file; number = length d.rules };
    name = record { path = s.owner; name = export.Making (length d.rules) };
  }

  -- one more rule of the module, which has the next number
  abbrev pub with_rule : Rule → Declarations
  with_rule r = record d { rules = d.rules ++ r ∷ [] }

  -- the rule that the call gives, and the declarations then, by whether `doc` is right, the
  -- function and the attributes; `type` where something isn't as it has to be
  abbrev pub rule_declared : Bool → Option FunctionRef → Option (List NamedAttribute)
      → Result (Value × Declarations) Kind
  rule_declared true (Some f) (Some named) =
      Ok (
        value.Leaf (plain.Rule next_rule),
        with_rule (record {
          implementation = f;
          attributes = named;
        }),
      )
  rule_declared _ _ _ = Err Wrong

  -- the call of `rule`, with what each parameter got
  abbrev pub rule_with : Result Bound Kind → Result (Value × Declarations) Kind
  rule_with (Ok (Some f ∷ attrs ∷ doc ∷ [])) =
      rule_declared (may_be_doc s.heap doc) (function_in (shape s.heap f)) (attributes_in attrs)
  rule_with (Ok _) = Err Arity
  rule_with (Err k) = Err k

  -- the call of `rule`
  abbrev pub new_rule : Given → Result (Value × Declarations) Kind
  new_rule g = rule_with (bound rule_parameters g)

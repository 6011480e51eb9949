-- What a module has while its top level runs: the calls of `provider`, `rule` and `attr` declare; a
-- call of a rule is `place` (docs/PROFILE.md, "Rules of all calls").
use Rattle.std.specs.Prelude.{ℕ, List, Option, Some, None, Err}
use Rattle.leaves.specs.declared.leaf.AttributeKind.{AttributeKind}
use Rattle.leaves.specs.declared.leaf.BuiltIn.{BuiltIn}
use Rattle.leaves.specs.declared.leaf.BuiltIn.TheVariants as built_in
use Rattle.leaves.specs.declared.leaf.Leaf.{Leaf}
use Rattle.leaves.specs.declared.leaf.Leaf.TheVariants as plain
use Rattle.ticks.specs.declared.ticks.Kind.TheVariants as fault
use Rattle.values.specs.declared.value.Value.{Value}
use Rattle.operations.specs.Arguments.{Given}
use Rattle.language.specs.Place.{Does, Place, with_state}
use Rattle.targets.specs.declared.attributes.Attribute.{Attribute}
use Rattle.targets.specs.declared.declarations.Declarations.{Declarations}
use Rattle.declaring.specs.AttributeCalls.{new_attribute}
use Rattle.declaring.specs.ProviderCalls.{new_provider}
use Rattle.declaring.specs.RuleMaking.{new_rule}
use Rattle.file_places.specs.Methods.{declared_kind, has_method}

-- `attr.string(..)` and its kin: a new attribute of that kind; no such method is `name`
abbrev pub attribute_call : Option AttributeKind → Given → Does Declarations Value
attribute_call (Some k) g w = with_state w (new_attribute k g w.state w.work)
attribute_call None g w = Err fault.Name

-- what other modules declared, by their paths and by numbers
module _ (linked : List ℕ → ℕ → Option Attribute) where
  -- a call of `provider` or `rule`, which declares one
  abbrev pub built_in_call : BuiltIn → Given → Does Declarations Value
  built_in_call built_in.Provider g w = with_state w (new_provider g w.state w.work)
  built_in_call built_in.Rule g w = with_state w (new_rule linked w.state w.work g)
  built_in_call _ g w = Err fault.Wrong

  -- a call that the language leaves to the place: `provider` and `rule` declare, a call of a rule
  -- is `place`, and what else it may be is `type`
  abbrev pub module_call : Leaf → Given → Does Declarations Value
  module_call (plain.BuiltIn b) g w = built_in_call b g w
  module_call (plain.Rule r) g w = Err fault.Place
  module_call _ g w = Err fault.Wrong

  -- `attr` has no fields, and a module sees no targets
  abbrev pub module_place : Place Declarations
  module_place = record {
    call = module_call;
    has_method = has_method;
    method = λ l x. attribute_call (declared_kind l x);
    field = λ l x w. Err fault.Name;
    item = λ n v w. Err fault.Wrong;
    offers = λ n v w. Err fault.Wrong;
  }
